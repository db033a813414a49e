-- How long things may be (01).
use Rattle.std.specs.Prelude.{ℕ}

-- a frame has "1 to 4,101" bytes
abbrev pub longest_frame : ℕ
longest_frame = 4101

-- a script has "at most 32,768 bytes"
abbrev pub longest_script : ℕ
longest_script = 32768

-- a plan takes "up to 4,096 wanted bytes"
abbrev pub longest_wanted : ℕ
longest_wanted = 4096

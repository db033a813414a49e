-- What program `play` prints of a script (01): run "on a new, erased 05PA, WP high".
use Rattle.std.specs.Prelude.{Bool, true, cond, List, [], ◌∷◌, ◌++◌, ℕ, ◌+◌, ◌*◌, ltb, length, replicate}
use Rattle.state.specs.Power.{new_chip}
use Rattle.state.specs.Status.{status_of}
use Rattle.script.specs.Record.{Record, frame, wait}
use Rattle.common.specs.Limits.{longest_script}
use Rattle.common.specs.Refusals.{script_too_long}
use Rattle.script.specs.Decode.{fault_number, Decoded, records, bad_at, decode}
use Rattle.frame.specs.Device.{Device, device}
use Rattle.frame.specs.Line.{Line, front, behind}
use Rattle.run.specs.Run.{step, shown_by, run}
use Rattle.run.specs.Script.{carries_offset}
use Rattle.text.specs.Text.{hex, shown_hex, line, decimals_line}

-- how long a listing can be: a frame of n bytes takes 4 + n bytes of the script and 2 n + 3 characters; the last line has 5
abbrev pub longest_listing : ℕ
longest_listing = 2 * longest_script + 5

abbrev pub high : Bool
high = true

-- the 65,536 bytes of an erased 05PA
unfoldable pub erased : List ℕ
erased = replicate 65536 0xff

abbrev pub new05pa : Device
new05pa = device (new_chip 5).state erased

-- "F, a space, its output in capital hex without gaps"; "two dashes for a silent byte" (02, A10)
abbrev pub frame_line : Line → List ℕ
frame_line l = line 0x46 (shown_hex l.output l.driven)

-- "S, a space, the status"
abbrev pub status_line : Device → List ℕ
status_line d = line 0x53 (hex (status_of d.state ∷ []))

-- "R, a space, the number"
abbrev pub refusal_line : ℕ → List ℕ
refusal_line number = decimals_line 0x52 (number ∷ [])

-- "with the offset of the first bad record's mark, which `play` prints as a third field, in decimal" (02, A1)
abbrev pub bad_record_line : ℕ → ℕ → List ℕ
bad_record_line number offset = decimals_line 0x52 (number ∷ offset ∷ [])

-- which of the two lines it is
abbrev pub why_refused : ℕ → ℕ → List ℕ
why_refused number offset = cond (carries_offset number) (bad_record_line number offset) (refusal_line number)

-- "One line a frame", in its place in the run; a wait has none
unfoldable pub frame_lines : List Record → Device → List ℕ
frame_lines [] d = []
frame_lines (frame f ∷ rs) d = frame_line (shown_by high (frame f) d) ++ frame_lines rs (step high (frame f) d)
frame_lines (wait n ∷ rs) d = frame_lines rs (step high (wait n) d)

-- the status comes "last"; "a refusal is one line"
abbrev pub decoded_lines : Decoded → List ℕ
decoded_lines (records rs) = frame_lines rs new05pa ++ status_line (run high rs new05pa)
decoded_lines (bad_at fault offset) = bad_record_line (fault_number fault) offset

-- 11 is checked before any record
unfoldable pub listing : List ℕ → List ℕ
listing script = cond (ltb longest_script (length script)) (refusal_line script_too_long) (decoded_lines (decode script))

-- the frames' lines made of all that they show, laid "one after another"
unfoldable pub cut_lines : List Record → Line → List ℕ
cut_lines [] l = []
cut_lines (frame f ∷ rs) l = frame_line (front (length f) l) ++ cut_lines rs (behind (length f) l)
cut_lines (wait n ∷ rs) l = cut_lines rs l

-- Nothing turns unread by itself (02, A14): the promise, and "an erase frame is taken" in the words of 01's table.
use Rattle.std.specs.Prelude.{◌≡◌, Bool, false, ◌&&◌, cond, List, [], ◌∷◌, ℕ, eqb, length}
use Rattle.script.specs.Record.{frame, wait}
use Rattle.script.specs.Decode.{records_of}
use Rattle.frame.specs.Device.{Device}
use Rattle.frame.specs.Line.{Line}
use Rattle.frame.specs.Call.{frame_number}
use Rattle.run.specs.declared.Ran.{Ran}
use Rattle.run.specs.Script.{ScriptRun}
use Rattle.unread.specs.Unread.{is_erase_taken, NothingTurnsUnread}
use Rattle.rules.specs.Frames.{opcode, is_resting, is_among}
use Rattle.rules.specs.Opcodes.{size_of, sector_in, block_in, is_open}

-- "20, D8 | 4 | sector, block erase", "60, C7 | 1 | chip erase", and each needs "WEL 1 and an unprotected target"
abbrev pub is_erase_open : List ℕ → Device → Bool
is_erase_open f d =
    cond (is_among (opcode f) (0x20 ∷ [])) (eqb (length f) 4 && is_open d (sector_in f d) 4096)
    (cond (is_among (opcode f) (0xd8 ∷ [])) (eqb (length f) 4 && is_open d (block_in f d) 65536)
    (is_among (opcode f) (0x60 ∷ 0xc7 ∷ []) && (eqb (length f) 1 && is_open d 0 (size_of d))))

-- while busy, in AAI and in power-down no erase is taken
abbrev pub is_erasing : List ℕ → Device → Bool
is_erasing f d = is_resting d.state && is_erase_open f d

pub record UnreadRules : Type 0 where
  -- the promise's "erase frame is taken", of an accepted frame; a wait is none
  pub erase_taken : (wp : Bool) (f : List ℕ) (d : Device) (line : Line) → frame_number wp f d line ≡ 0 → is_erase_taken wp (frame f) d ≡ is_erasing f d
  pub wait_is_none : (wp : Bool) (n : ℕ) (d : Device) → is_erase_taken wp (wait n) d ≡ false
  -- "Say this of any accepted script, from any sound state, on every chip."
  pub any_script : (wp : Bool) (script : List ℕ) (d : Device) (line : Line) (ran : Ran) (after : Device) (shown : Line)
      → ScriptRun wp script d line ran after shown → ran.number ≡ 0 → NothingTurnsUnread wp (records_of script) d after

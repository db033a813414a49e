-- `script::reader::front_at` meets its contract: the bytes from the offset on are none, one, or a mark and what is behind it.
use mathlib.Core.Path.{◌≡◌, sym, ap, refl, ◌∙◌}
use mathlib.Core.Bool.{Bool, true, false, ◌&&◌}
use mathlib.Core.List.{List}
use Prim.Native.Nat.{ℕ, ◌-◌, ◌≤◌, ◌<◌}
use native.Mathlib.Omega.{arith}
use lib.ListN.{length, get_or, take, drop}
use borrow.Author.Tests.{ne_eqb}
use Rattle.std.proofs.Common.{rules}
use Rattle.std.proofs.lemmas.List.{take_rest}
use Rattle.script.specs.Record.{script_mark, frame_mark, wait_mark}
use Rattle.script.specs.Decode.{unknown_mark, end, malformed, front_frame, front_wait, front}
use Rattle.script.specs.Reader.{answer, found_in}
use Rattle.script.proofs.Laws.Places.{front_at_end, front_short, front_frame_lem, front_wait_lem, front_unknown}
use Rattle.script.proofs.reader.front_at.Goals as goal

none : (bytes : List ℕ) → length bytes < 1 → front bytes ≡ end
none bytes few = front_at_end bytes 0 (omega (arith, few))

module _ (offset : ℕ) (bytes : List ℕ) (two : 2 ≤ length bytes) (first : get_or bytes 0 0 ≡ script_mark) where
  frame_marked : get_or bytes 1 0 ≡ frame_mark → answer offset (front_frame (take (length bytes - 2) (drop 2 bytes))) ≡ answer offset (front bytes)
  frame_marked second = ap (answer offset) (ap front_frame (take_rest bytes 2) ∙ sym (front_frame_lem bytes 0 two (rw (first, second) refl)))

  wait_marked : get_or bytes 1 0 ≡ wait_mark → answer offset (front_wait (take (length bytes - 2) (drop 2 bytes))) ≡ answer offset (front bytes)
  wait_marked second =
      ap (answer offset) (ap front_wait (take_rest bytes 2) ∙ sym (front_wait_lem bytes 0 two (rw (first, second) refl) (rw (first, second) refl)))

and_none_right : (a b : Bool) → b ≡ false → a && b ≡ false
and_none_right true b h = h
and_none_right false b h = refl

module _ (bytes : List ℕ) (two : 2 ≤ length bytes) where
  unmarked : (get_or bytes 0 0 ≡ script_mark → ⊥) → front bytes ≡ malformed unknown_mark
  unmarked n = let first = ne_eqb _ script_mark n in front_unknown bytes 0 two (rw first refl) (rw first refl)

  half_marked : (get_or bytes 1 0 ≡ frame_mark → ⊥) → (get_or bytes 1 0 ≡ wait_mark → ⊥) → front bytes ≡ malformed unknown_mark
  half_marked f w =
      let no_frame = ne_eqb _ frame_mark f in
      let no_wait = ne_eqb _ wait_mark w in
      front_unknown bytes 0 two (and_none_right _ _ no_frame) (and_none_right _ _ no_wait)

pub returns-in-empty : goal.returns-in-empty
returns-in-empty c =
    let a = c.args in
    rw (← take_rest a.script.now a.offset) (sym (ap (answer a.offset) (none _ c.in-empty.len_below)))

pub returns-in-len1 : goal.returns-in-len1
returns-in-len1 c =
    let a = c.args in
    rw (← take_rest a.script.now a.offset) (sym (ap (answer a.offset) (front_short _ c.in-len1.len_at_least c.in-len1.len_below)))

pub returns-in-90 : goal.returns-in-90
returns-in-90 c =
    let a = c.args in
    let handed_on : c.map.result ≡ found_in c.frame_at.result = search rules in
    let part = take (length a.script.now - a.offset) (drop a.offset a.script.now) in
    let first : get_or part 0 0 ≡ script_mark = search in
    let second : get_or part 1 0 ≡ frame_mark = search in
    rw (← take_rest a.script.now a.offset) (handed_on ∙ c.frame_at.ensures ∙ frame_marked a.offset _ c.in-90.len_at_least first second)

pub returns-in-90-2 : goal.returns-in-90-2
returns-in-90-2 c =
    let a = c.args in
    let handed_on : c.map-in-90-2.result ≡ found_in c.wait_at.result = search rules in
    let part = take (length a.script.now - a.offset) (drop a.offset a.script.now) in
    let first : get_or part 0 0 ≡ script_mark = search in
    let second : get_or part 1 0 ≡ wait_mark = search in
    rw (← take_rest a.script.now a.offset) (handed_on ∙ c.wait_at.ensures ∙ wait_marked a.offset _ c.in-90-2.len_at_least first second)

pub returns-in_default : goal.returns-in_default
returns-in_default c =
    let a = c.args in
    let part = take (length a.script.now - a.offset) (drop a.offset a.script.now) in
    let no_frame : get_or part 1 0 ≡ frame_mark → ⊥ = search in
    let no_wait : get_or part 1 0 ≡ wait_mark → ⊥ = search in
    rw (← take_rest a.script.now a.offset) (sym (ap (answer a.offset) (half_marked part c.in_default.len_at_least no_frame no_wait)))

pub returns-in_default-2 : goal.returns-in_default-2
returns-in_default-2 c =
    let a = c.args in
    let part = take (length a.script.now - a.offset) (drop a.offset a.script.now) in
    let other : get_or part 0 0 ≡ script_mark → ⊥ = search in
    rw (← take_rest a.script.now a.offset) (sym (ap (answer a.offset) (unmarked part c.in_default.len_at_least other)))

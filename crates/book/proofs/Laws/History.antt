-- Over any history of markings, only what was asked for is read, and what is read stays so.
-- Assumes nothing.
use mathlib.Core.Path.{◌≡◌, refl, sym, ◌∙◌}
use mathlib.Core.Bool.{Bool, true, false, ◌||◌}
use mathlib.Core.List.{List}
use Prim.Native.Nat.{ℕ, ◌+◌, ◌/◌, ◌<◌}
use native.Mathlib.Omega.{arith}
use Rattle.common.specs.Bits.{Bytes}
use Rattle.common.proofs.Laws.Places.{within_yes}
use Rattle.promises.specs.Promises.{Device}
use Rattle.book.specs.Book.{is_read, is_listed}
use Rattle.book.specs.Marking.{History, begins, marks, aside, is_asked, OnlyAskedRead}
use Rattle.book.proofs.Laws.Read.{read_by_byte}
use Rattle.book.proofs.Laws.Marking.{kept, mark_behind}

-- what is so along it: the array is one of bytes, and the flags are as asked
record Along (sector : ℕ) (first : Device) (asked : List (List ℕ)) (last : Device) : Type 0 where
  bytes : Bytes last.array
  flags : OnlyAskedRead sector first asked last

along : (sector : ℕ) {first last : Device} {asked : List (List ℕ)} → Bytes first.array → History sector first asked last → Along sector first asked last
unfolding is_asked
along sector bytes begins = record { bytes = bytes; flags = record { only_asked = λ scene h e. rw e refl; stays_read = λ scene h e. e } }
along sector {first} {last} bytes (marks {asked} {chip} h {wp} {scenes} {buffer} {after} {r} m good behind) =
    let so_far = along sector bytes h in
    let only = mark_behind wp chip sector scenes buffer after r so_far.bytes m good last behind in
    record {
      bytes = ((kept wp chip sector scenes buffer after r so_far.bytes m good).ready last behind).bytes;
      flags = record {
        only_asked = λ scene l e.
            asked_more (is_read first.array sector scene) (is_listed scene scenes) (is_asked scene asked)
            (λ f. so_far.flags.only_asked scene l (sym (only.unlisted scene l f) ∙ e));
        stays_read = λ scene l e. only.stays_read scene l (so_far.flags.stays_read scene l e);
      };
    }
  where
    asked_more : (old listed earlier : Bool) → (listed ≡ false → (old || earlier) ≡ true) → (old || (listed || earlier)) ≡ true
    asked_more true listed earlier f = refl
    asked_more false true earlier f = refl
    asked_more false false earlier f = f refl
along sector {first} {last} bytes (aside {asked} {chip} h same new) =
    let so_far = along sector bytes h in
    let flag : (scene : ℕ) → scene < 4096 → is_read last.array sector scene ≡ is_read chip.array sector scene =
    λ scene l. read_by_byte last.array chip.array sector scene (same (sector + scene / 8) (within_yes sector 512 (sector + scene / 8) (omega arith) (omega arith))) in
    record {
      bytes = new;
      flags = record {
        only_asked = λ scene l e. so_far.flags.only_asked scene l (sym (flag scene l) ∙ e);
        stays_read = λ scene l e. flag scene l ∙ so_far.flags.stays_read scene l e;
      };
    }

pub only_asked_read : (sector : ℕ) (first last : Device) (asked : List (List ℕ)) → Bytes first.array → History sector first asked last
    → OnlyAskedRead sector first asked last
only_asked_read sector first last asked bytes h = (along sector bytes h).flags

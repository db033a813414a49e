-- A command that does not read the array shows nothing at all, or one and the same from byte 4 on, unless it goes by turns: so a run lays the rest.
-- Assumes nothing.
use mathlib.Core.Path.{◌≡◌, refl, sym, ◌∙◌}
use mathlib.Core.Bool.{Bool}
use mathlib.Core.List.{List, [], ◌∷◌}
use mathlib.Core.Logic.{⊎_elim}
use Prim.Native.Nat.{ℕ, ◌≤◌, ◌<◌, min}
use native.Mathlib.Omega.{arith}
use lib.ListN.{length}
use denote.Enum.Declared.{tag_of}
use types.Run.{OneOf, miss}
use borrow.Author.Tests.{lt-ltb, le-ltb, le-leb, lt-leb, ne_eqb}
use Rattle.common.specs.Lists.{mapi, tab, up_to, on_run}
use Rattle.common.proofs.Laws.Lists.{split, mapi_mapi, mapi_cong, mapi_tab, mapi_all}
use Rattle.state.specs.declared.State.{State}
use Rattle.state.specs.State.{data_of}
use Rattle.chip.proofs.Laws.Chip.{regular}
use Rattle.command.specs.declared.Command.{Command}
use Rattle.command.specs.declared.Command.TheVariants.{
  Ignored,
  ReadStatus,
  ReadArray,
  ReadJedec,
  ReadSignature,
  ReadIdentity,
  WriteEnable,
  WriteDisable,
  Arm,
  WriteStatus,
  Erase,
  ProgramByte,
  ProgramPage,
  ProgramWord,
  Sleep,
}
use Rattle.command.specs.contracts.Command.{the_type}
use Rattle.std.specs.Prelude.{None}
use Rattle.output.specs.Output.{shown_at}
use Rattle.output.specs.Runs.{NoRead, SameFrom}

-- ---- a command that shows nothing

-- by its variants: all but the reads, and the read of the array, which is ruled out apart
abbrev pub silent : List ℕ
silent = 0 ∷ 2 ∷ 6 ∷ 7 ∷ 8 ∷ 9 ∷ 10 ∷ 11 ∷ 12 ∷ 13 ∷ 14 ∷ []

pub silent_shown : (s : State) (c : Command) (m : ℕ → ℕ) (i : ℕ) → NoRead c → OneOf silent (tag_of the_type c) → shown_at s c m i ≡ None
unfolding shown_at
silent_shown s Ignored m i r h = refl
silent_shown s ReadStatus m i r h = absurd (miss silent 1 tt h)
silent_shown s (ReadArray a n) m i r h = absurd (r a n refl)
silent_shown s ReadJedec m i r h = absurd (miss silent 3 tt h)
silent_shown s ReadSignature m i r h = absurd (miss silent 4 tt h)
silent_shown s (ReadIdentity b) m i r h = absurd (miss silent 5 tt h)
silent_shown s WriteEnable m i r h = refl
silent_shown s WriteDisable m i r h = refl
silent_shown s Arm m i r h = refl
silent_shown s (WriteStatus b t) m i r h = refl
silent_shown s (Erase a n t) m i r h = refl
silent_shown s (ProgramByte a) m i r h = refl
silent_shown s (ProgramPage a n) m i r h = refl
silent_shown s (ProgramWord a j) m i r h = refl
silent_shown s Sleep m i r h = refl

pub same_from_start : (c : Command) (count : ℕ) → NoRead c → OneOf silent (tag_of the_type c) → SameFrom c 0 count
same_from_start c count r h s m i l below = silent_shown s c m i r h ∙ sym (silent_shown s c m 0 r h)

-- ---- one that answers the same from byte 4 on

-- it does not go by turns
abbrev pub NoTurns : Command → Type 0
NoTurns c = (odd : Bool) → c ≡ ReadIdentity odd → ⊥

settled : (s : State) (c : Command) (m : ℕ → ℕ) → NoRead c → NoTurns c → (i : ℕ) → 4 ≤ i → shown_at s c m i ≡ shown_at s c m 4
unfolding shown_at
settled s Ignored m no_read no_turns i l = refl
settled s ReadStatus m no_read no_turns i l = rw (le-ltb i 1 (omega arith)) refl
settled s (ReadArray a n) m no_read no_turns i l = absurd (no_read a n refl)
settled s ReadJedec m no_read no_turns i l =
    rw (ne_eqb i 1 (λ e. absurd (omega arith)), ne_eqb i 2 (λ e. absurd (omega arith)), ne_eqb i 3 (λ e. absurd (omega arith))) refl
settled s ReadSignature m no_read no_turns i l =
    let short = (regular s.chip).preamble_le_4 in
    rw (le-ltb i (data_of s).preamble (omega (arith, l, short)), le-ltb 4 (data_of s).preamble short) refl
settled s (ReadIdentity odd) m no_read no_turns i l = absurd (no_turns odd refl)
settled s WriteEnable m no_read no_turns i l = refl
settled s WriteDisable m no_read no_turns i l = refl
settled s Arm m no_read no_turns i l = refl
settled s (WriteStatus b t) m no_read no_turns i l = refl
settled s (Erase a n t) m no_read no_turns i l = refl
settled s (ProgramByte a) m no_read no_turns i l = refl
settled s (ProgramPage a n) m no_read no_turns i l = refl
settled s (ProgramWord a j) m no_read no_turns i l = refl
settled s Sleep m no_read no_turns i l = refl

pub same_from_four : (c : Command) → NoRead c → NoTurns c → (count : ℕ) → SameFrom c (min 4 count) count
same_from_four c no_read no_turns count s m i l h =
    let four : min 4 count ≡ 4 = omega (arith, l, h) in rw four (settled s c m no_read no_turns i (omega (arith, l, h)))

-- all of them are looked at
pub same_from_end : (c : Command) (count : ℕ) → SameFrom c count count
same_from_end c count s m i l h = absurd (omega (arith, l, h))

-- ---- a slice laid to its end

-- byte by byte up to a place, and the rest, which is the same, in a run
pub laid_by_run : (f : ℕ → ℕ) (slice : List ℕ) (to : ℕ) → ((i : ℕ) → to ≤ i → i < length slice → f i ≡ f to)
    → mapi (on_run to (length slice) (λ k x. f to)) (mapi (up_to to (λ k x. f k)) slice) ≡ tab (length slice) f
laid_by_run f slice to same =
    mapi_mapi (up_to to (λ k x. f k)) (on_run to (length slice) (λ k x. f to)) slice
    ∙ mapi_cong (λ k x. on_run to (length slice) (λ k x. f to) k (up_to to (λ k x. f k) k x)) (λ k x. f k) slice
    (λ k h. ⊎_elim (λ b. rw (lt-leb to k b, lt-ltb k to b) refl)
    (λ b. rw (le-leb to k b, lt-ltb k (length slice) h) (sym (same k b h))) (split k to))
    ∙ mapi_tab f slice

-- byte by byte to its end
pub laid_whole : (f : ℕ → ℕ) (slice : List ℕ) → mapi (up_to (length slice) (λ k x. f k)) slice ≡ tab (length slice) f
laid_whole f slice = mapi_all (λ k x. f k) slice ∙ mapi_tab f slice

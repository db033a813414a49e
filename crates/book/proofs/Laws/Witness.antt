-- A book that is marked, and calls at their edges, on an F25L05PA at rest: what is proved of a marking is not said of nothing.
-- Assumes nothing.
use mathlib.Core.Path.{◌≡◌, refl, sym, ap, ◌∙◌}
use mathlib.Core.Bool.{Bool, true, false, cond, not, ◌&&◌, ◌||◌}
use mathlib.Core.List.{List, [], ◌∷◌}
use mathlib.Core.Logic.{inl}
use Prim.Native.Nat.{ℕ, ◌+◌, ◌-◌, ◌*◌, ◌/◌, ◌%◌, ◌≤◌, ◌<◌}
use native.Mathlib.Omega.{arith}
use lib.Dec.{eqb}
use lib.ListN.{length, get_or}
use borrow.Author.Tests.{ne_eqb}
use Rattle.common.specs.Bits.{Bytes, bit_at}
use Rattle.common.specs.Lists.{tab, count_below}
use Rattle.common.specs.Refusals.{wrong_book}
use Rattle.common.proofs.Laws.Bits.{bits_ext, bytes_within}
use Rattle.common.proofs.Laws.Lists.{get_d_tab}
use Rattle.common.proofs.Laws.Places.{count_none, count_cong}
use Rattle.chip.specs.Chip.{chip_of, is_known}
use Rattle.state.specs.declared.State.{State}
use Rattle.state.specs.declared.Planned.{Planned}
use Rattle.state.specs.Power.{at_rest}
use Rattle.state.specs.Soundness.{is_sound}
use Rattle.promises.specs.Promises.{Device, room_enough}
use Rattle.promises.proofs.Laws.Promises.{updated_at, calm_at_rest}
use Rattle.book.specs.Book.{is_read, count_read, wanted_part, is_listed}
use Rattle.book.specs.Refusals.{has_over, is_sector, book_refusal, Opened}
use Rattle.book.specs.Answers.{Marks}
use Rattle.book.specs.Marking.{MarkFinished}
use Rattle.book.proofs.Laws.Read.{read_is, count_is}
use Rattle.book.proofs.Laws.Refusals.{opened_exactly}
use Rattle.book.proofs.Laws.Marking.{kept, wanted_bytes, wanted_bit, in_book}
use Rattle.book.proofs.Laws.Numbers.{mark_accepted}
use Rattle.book.proofs.Laws.Counted.{count_distinct, marked_count}

-- unprotected, as a new one is
abbrev pub small : State
small = at_rest 5 0 false false

-- ---- calls at their edges, whatever the array holds

module _ (array : List ℕ) (sized : length array ≡ 65536) where
  -- the last scene, and the one behind it; a number that 16 bits would cut to scene 5
  pub last_scene : book_refusal small array 0 (4095 ∷ []) ≡ 0
  unfolding book_refusal is_sound is_known chip_of has_over is_sector
  last_scene = rw sized refl

  pub behind_the_last_scene : book_refusal small array 0 (4096 ∷ []) ≡ wrong_book
  unfolding book_refusal is_sound is_known chip_of has_over is_sector
  behind_the_last_scene = rw sized refl

  pub scene_not_cut : book_refusal small array 0 (65541 ∷ []) ≡ wrong_book
  unfolding book_refusal is_sound is_known chip_of has_over is_sector
  scene_not_cut = rw sized refl

  -- the last sector, and the size
  pub last_sector : book_refusal small array 61440 [] ≡ 0
  unfolding book_refusal is_sound is_known chip_of has_over is_sector
  last_sector = rw sized refl

  pub sector_at_the_size : book_refusal small array 65536 [] ≡ wrong_book
  unfolding book_refusal is_sound is_known chip_of has_over is_sector
  sector_at_the_size = rw sized refl

-- ---- scenes 0, 9 and 9 of an erased chip

abbrev listed : List ℕ
listed = 0 ∷ 9 ∷ 9 ∷ []

-- bits of a byte, computed
by_table : (f g : ℕ → ℕ) → tab 8 f ≡ tab 8 g → (b : ℕ) → b < 8 → f b ≡ g b
by_table f g same b h = sym (get_d_tab 8 f b 0 h) ∙ ap (λ (l : List ℕ). get_or l b 0) same ∙ get_d_tab 8 g b 0 h

ones_set : tab 8 (bit_at 255) ≡ tab 8 (λ b. 1)
unfolding bit_at
ones_set = refl

-- the repeat counts once
two_listed : (t : ℕ) → (is_listed t listed && true) ≡ is_listed t (0 ∷ 9 ∷ [])
unfolding is_listed
two_listed t = once (eqb 0 t) (eqb 9 t)
  where
    once : (a b : Bool) → ((a || (b || (b || false))) && true) ≡ (a || (b || false))
    once true b = refl
    once false true = refl
    once false false = refl

two_count : count_below (λ t. is_listed t (0 ∷ 9 ∷ [])) 4096 ≡ 2
unfolding is_listed has_over
two_count = count_distinct (0 ∷ 9 ∷ []) refl (refl, (refl, tt))

module _ (chip : Device) (is : chip.state ≡ small) (sized : length chip.array ≡ 65536) (erased : (k : ℕ) → k < 65536 → get_or chip.array k 0 ≡ 0xff)
    (wp : Bool) (buffer after : List ℕ) (r : Planned) (marks : Marks chip.state wp chip.array 12288 listed buffer after r)
    (enough : room_enough chip.state ≤ length buffer) where
  abbrev before : List ℕ
  before = chip.array

  bytes : Bytes before
  bytes = bytes_within before (λ k h. rw (erased k (omega (arith, sized))) (omega arith))

  opens : Opened chip.state before 12288 listed
  unfolding book_refusal is_sound is_known chip_of has_over is_sector
  opens = (opened_exactly chip.state before 12288 listed).when (rw (is, sized) refl)

  -- accepted, at either level of WP
  pub three_accepted : r.number ≡ 0
  three_accepted =
      mark_accepted chip.state wp before 12288 listed buffer after r bytes marks opens (rw is (calm_at_rest 5 0 false false))
      (inl (ap (λ (s : State). s.bpl) is)) enough

  unread : (scene : ℕ) → scene < 4096 → is_read before 12288 scene ≡ false
  unread scene h =
      let one = by_table (bit_at 255) (λ b. 1) ones_set (scene % 8) (omega arith) in
      read_is before 12288 scene ∙ rw (erased (12288 + scene / 8) (omega arith)) (ne_eqb (bit_at 255 (scene % 8)) 0 (λ z. omega (arith, one, z)))

  module _ (done : Device) (finished : MarkFinished wp chip 12288 listed done) where
    byte_by : (k value : ℕ) → k < 512 → value < 256 → tab 8 (λ b. cond (is_listed (k * 8 + b) listed) 0 (bit_at 255 b)) ≡ tab 8 (bit_at value)
        → get_or done.array (12288 + k) 0 ≡ value
    byte_by k value h small same =
        let inside : 12288 + 512 ≤ length before = omega (arith, sized) in
        let here : 12288 + k - 12288 ≡ k = omega arith in
        let want : List ℕ = wanted_part before 12288 listed in
        let place = in_book before 12288 listed inside k h in
        ap (λ (l : List ℕ). get_or l (12288 + k) 0) ((kept wp chip 12288 listed buffer after r bytes marks three_accepted).finished done finished)
        ∙ updated_at before 12288 want (12288 + k) (omega (arith, sized)) ∙ rw (place, here) refl
        ∙ bits_ext 8 (get_or want k 0) value (wanted_bytes before 12288 listed inside bytes k) small
        (λ b l. wanted_bit before 12288 listed inside k b h l
        ∙ ap (λ (x : ℕ). cond (is_listed (k * 8 + b) listed) 0 (bit_at x b)) (erased (12288 + k) (omega arith))
        ∙ by_table (λ b. cond (is_listed (k * 8 + b) listed) 0 (bit_at 255 b)) (bit_at value) same b l)

    pub byte_0 : get_or done.array 12288 0 ≡ 0xfe
    unfolding is_listed bit_at
    byte_0 = byte_by 0 0xfe (omega arith) (omega arith) refl

    pub byte_1 : get_or done.array 12289 0 ≡ 0xfd
    unfolding is_listed bit_at
    byte_1 = byte_by 1 0xfd (omega arith) (omega arith) refl

    pub two_read : count_read done.array 12288 ≡ 2
    two_read =
        let none = count_is before 12288 ∙ count_none (is_read before 12288) 4096 unread in
        let new = count_cong (λ t. is_listed t listed && not (is_read before 12288 t)) (λ t. is_listed t (0 ∷ 9 ∷ [])) 4096 (λ t h. rw (unread t h) (two_listed t)) ∙ two_count in
        marked_count wp chip 12288 listed buffer after r bytes marks three_accepted done finished ∙ omega (arith, none, new)

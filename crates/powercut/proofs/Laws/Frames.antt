-- What each record of a plan is in the state that it meets. By the chip's data, never by its number.
-- Assumes nothing.
use mathlib.Core.Path.{◌≡◌, refl}
use mathlib.Core.Bool.{Bool, true, false, ◌||◌, not}
use mathlib.Core.List.{List, [], ◌∷◌, ◌++◌}
use Prim.Native.Nat.{ℕ, ◌+◌, ◌%◌, ◌≤◌, ◌<◌}
use native.Mathlib.Omega.{arith}
use lib.ListN.{length}
use Rattle.common.specs.Numbers.{address_bytes}
use Rattle.state.specs.declared.State.{State}
use Rattle.state.specs.State.{data_of}
use Rattle.state.specs.Protection.{first_protected}
use Rattle.state.specs.Time.{time_passed}
use Rattle.state.proofs.Laws.Protection.{first_by}
use Rattle.state.proofs.Laws.Passed.{time_ends, time_ends_in_aai, time_ends_aai}
use Rattle.command.specs.declared.Command.TheVariants.{WriteEnable, WriteDisable, Arm, WriteStatus, ProgramPage, ProgramWord}
use Rattle.command.specs.Command.{command_of}
use Rattle.command.specs.Fits.{Resting, Open}
use Rattle.command.proofs.Laws.Sent.{wren_taken, wrdi_taken, ewsr_taken, wrsr_taken, first_word_taken, page_taken, next_word_taken, wrdi_taken_in_aai}
use Rattle.powercut.proofs.Laws.States.{rest, running, busy, border}

-- ---- at rest

at_rest_lem : (s : State) (bp : ℕ) (wel armed : Bool) → Resting (rest s bp wel armed)
at_rest_lem s bp wel armed = record { still = refl; single = refl; awake = refl }

-- a state with WEL 1 at a level of protection takes what ends at or below the border
below_border : (s now : State) (bp end : ℕ) → now.wel ≡ true → now.chip ≡ s.chip → now.bp ≡ bp → end ≤ border s bp → Open now end
below_border s now bp end e chip level free = record { enabled = e; free = rw (first_by now (rest s bp false false) chip level) free }

module _ (wp : Bool) (s : State) (bp : ℕ) (wel armed : Bool) where
  pub write_enable : command_of (rest s bp wel armed) wp (0x06 ∷ []) ≡ WriteEnable
  write_enable = wren_taken (rest s bp wel armed) wp (at_rest_lem s bp wel armed)

  pub write_disable : command_of (rest s bp wel armed) wp (0x04 ∷ []) ≡ WriteDisable
  write_disable = wrdi_taken (rest s bp wel armed) wp (at_rest_lem s bp wel armed)

  pub arm : (data_of s).ewsr ≡ true → command_of (rest s bp wel armed) wp (0x50 ∷ []) ≡ Arm
  arm e = ewsr_taken (rest s bp wel armed) wp (at_rest_lem s bp wel armed) e

  -- armed, and not with BPL 1 while WP is low
  pub write_status_lem : (byte : ℕ) → not s.bpl || wp ≡ true → command_of (rest s bp wel true) wp (0x01 ∷ byte ∷ []) ≡ WriteStatus byte (data_of s).status_time
  write_status_lem byte e = wrsr_taken (rest s bp wel true) wp (at_rest_lem s bp wel true) byte refl e

-- ---- words

module _ (wp : Bool) (s : State) (bp : ℕ) where
  pub word_first : (armed : Bool) (a x y : ℕ) → (data_of s).word_plans ≡ true → a % 2 ≡ 0 → a + 2 ≤ border s bp
      → command_of (rest s bp true armed) wp (0xad ∷ (address_bytes a ++ (x ∷ y ∷ []))) ≡ ProgramWord a 4
  word_first armed a x y words even free =
      first_word_taken (rest s bp true armed) wp (at_rest_lem s bp true armed) a x y words even (below_border s (rest s bp true armed) bp (a + 2) refl refl refl free)

  pub word_further : (a x y : ℕ) → a + 2 ≤ border s bp → command_of (running s bp 0 a) wp (0xad ∷ x ∷ y ∷ []) ≡ ProgramWord a 1
  word_further a x y free = next_word_taken (running s bp 0 a) wp refl refl x y (below_border s (running s bp 0 a) bp (a + 2) refl refl refl free)

  pub run_closed : (a : ℕ) → command_of (running s bp 0 a) wp (0x04 ∷ []) ≡ WriteDisable
  run_closed a = wrdi_taken_in_aai (running s bp 0 a) wp refl refl

module _ (s : State) (bp a : ℕ) where
  same_border : first_protected (running s bp 7 a) ≡ border s bp
  same_border = first_by (running s bp 7 a) (rest s bp false false) refl refl

  -- a word's time is over: AAI goes on below the border
  pub word_done : a < border s bp → time_passed (running s bp 7 a) 7 ≡ running s bp 0 a
  word_done h = time_ends_in_aai (running s bp 7 a) 7 (omega arith) (omega arith) refl refl (rw same_border h)

  -- and ends there
  pub last_word_done : border s bp ≤ a → time_passed (running s bp 7 a) 7 ≡ rest s bp false false
  last_word_done h = time_ends_aai (running s bp 7 a) 7 (omega arith) (omega arith) refl refl (rw same_border h)

-- ---- pages

module _ (wp : Bool) (s : State) (bp : ℕ) where
  pub page_sent : (armed : Bool) (a x : ℕ) (sent : List ℕ) → (data_of s).word_plans ≡ false → a < border s bp
      → command_of (rest s bp true armed) wp (0x02 ∷ (address_bytes a ++ (x ∷ sent))) ≡ ProgramPage a (length (x ∷ sent))
  page_sent armed a x sent pages free =
      page_taken (rest s bp true armed) wp (at_rest_lem s bp true armed) a x sent pages (below_border s (rest s bp true armed) bp (a + 1) refl refl refl (omega arith))

  pub page_done : time_passed (busy s bp) 1500 ≡ rest s bp false false
  page_done = time_ends (busy s bp) 1500 (omega arith) (omega arith) refl refl

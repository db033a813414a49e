-- Plans on an erased chip that is protected everywhere, for 4,096 bytes from address 1 on: what they amount to where every byte is to be 00, and where
-- every second word is.
-- Assumes nothing.
use mathlib.Core.Path.{◌≡◌, refl, sym, ◌∙◌}
use mathlib.Core.Bool.{Bool, true, false, not, ◌&&◌, true≢false}
use mathlib.Core.List.{List}
use mathlib.Core.Logic.{⊎_elim}
use Prim.Native.Nat.{ℕ, suc, ◌+◌, ◌-◌, ◌*◌, ◌%◌, ◌≤◌, ◌<◌}
use native.Mathlib.Omega.{arith}
use lib.Bits.{bit_and, and_comm}
use lib.Dec.{eqb}
use lib.ListN.{length, get_or}
use borrow.Author.Tests.{eq-eqb}
use Rattle.common.proofs.Laws.Bits.{and_full}
use Rattle.common.proofs.Laws.Booleans.{imp_or, or_none_i}
use Rattle.common.proofs.Laws.Choice.{cases}
use Rattle.common.proofs.Laws.Lists.{split}
use Rattle.chip.proofs.Laws.Chip.{words_at_once}
use Rattle.state.specs.declared.State.{State}
use Rattle.state.specs.State.{data_of}
use Rattle.state.specs.Protection.{first_protected}
use Rattle.state.specs.Soundness.{is_sound}
use Rattle.script.specs.Record.{encode}
use Rattle.script.specs.declared.measure.Measure.{Measure}
use Rattle.script.specs.Measure.{measure_of}
use Rattle.region.specs.Region.{wanted_at, changes, rises}
use Rattle.region.proofs.Laws.Region.{change_in_region, changes_inside, rises_inside, wants_none}
use Rattle.words.specs.Words.{word_changes}
use Rattle.words.proofs.Laws.Counts.{one_run, single_words}
use Rattle.words.proofs.Laws.Words.{words_step_counted}
use Rattle.pages.specs.Pages.{pages_in}
use Rattle.pages.proofs.Laws.Region.{pages_step_whole}
use Rattle.plan.specs.Plan.{step_one_needed, plan_records, with_waits}
use Rattle.plan.specs.Refusals.{plan_refusal, RegionAccepted}
use Rattle.plan.proofs.Laws.Steps.{not_needed_free, with_status_needed, program_words, program_pages}
use Rattle.plan.proofs.Laws.Plan.{plan_measure}
use Rattle.plan.proofs.Laws.Refusals.{accepted_region, of_accepted, refusal_short}
use Rattle.plan.proofs.Laws.Update.{measured_length}
use Rattle.worst.specs.Worst.{worst_by_words, worst_by_pages, Reaches}
use Rattle.worst.proofs.Laws.Worst.{reported_is}

-- ---- a plan of a known measure

module _ (s : State) (wp : Bool) (array : List ℕ) (start : ℕ) (wanted : List ℕ) (region : RegionAccepted s array start wanted) (unlocked : s.bpl ≡ false)
    (m : Measure) (amounts : measure_of (plan_records s array start wanted) ≡ m) where
  long : length (encode (plan_records s array start wanted)) ≡ m.length
  long = sym (measured_length (plan_records s array start wanted) m (sym amounts))

  -- with BPL 0 the status is not locked, whatever the level of WP
  writable : (needed : Bool) → (needed && s.bpl && not wp) ≡ false
  writable true = rw unlocked refl
  writable false = refl

  number_0 : (room : ℕ) → room ≡ m.length → plan_refusal s wp array start wanted room ≡ 0
  number_0 room e =
      of_accepted s array start wanted wp room
      record { region = region; writable = writable (step_one_needed s array start wanted); roomy = omega (arith, long) }

  number_10 : (room : ℕ) → suc room ≡ m.length → plan_refusal s wp array start wanted room ≡ 10
  number_10 room e =
      refusal_short s array start wanted wp room (accepted_region s array start wanted region) (writable (step_one_needed s array start wanted)) (omega (arith, long))

  reaches : Reaches s wp array start wanted m
  reaches = record {
    accepted = λ buffer after r e p. p.number ∙ number_0 (length buffer) e;
    amounts = λ buffer after r e p. reported_is s wp array start wanted buffer after r p (p.number ∙ number_0 (length buffer) e) ∙ amounts;
    needs_all = λ buffer after r e p. p.number ∙ number_10 (length buffer) e;
  }

-- ---- an erased chip, all of it protected

-- where plans go by words: the most bytes, with the most time or with the most frames; the third is then the most that `frames_or_time` leaves
abbrev pub most_time : Measure
most_time = record { length = worst_by_words.length; frames = 2055; microseconds = worst_by_words.microseconds }

abbrev pub most_frames : Measure
most_frames = record { length = worst_by_words.length; frames = worst_by_words.frames; microseconds = 7175 }

-- a chip at rest with BPL 0, every byte of it FF and protected
pub record Blank (s : State) (array : List ℕ) : Type 0 where
  pub sound : is_sound s ≡ true
  pub ready : s.left ≡ 0
  pub no_aai : s.aai ≡ false
  pub awake : s.power_down ≡ false
  pub unlocked : s.bpl ≡ false
  pub protected : first_protected s ≡ 0
  pub sized : length array ≡ (data_of s).size
  pub large : 4097 ≤ length array
  pub erased : (k : ℕ) → k < length array → get_or array k 0 ≡ 0xff

-- 4,096 bytes are wanted from address 1 on
module _ (s : State) (wp : Bool) (array : List ℕ) (blank : Blank s array) (wanted : List ℕ) (long : length wanted ≡ 4096)
    (bytes : (i : ℕ) → i < 4096 → get_or wanted i 0 < 256) where
  abbrev d : ℕ → Bool
  d = changes array 1 wanted

  -- a byte FF can become any
  falls : (address : ℕ) → 1 ≤ address → address < 1 + length wanted → rises array 1 wanted address ≡ false
  falls address h l =
      let x : ℕ = get_or wanted (address - 1) 0 in
      let kept : bit_and 255 x ≡ x = and_comm 255 x ∙ and_full x (bytes (address - 1) (omega arith)) in
      rises_inside array 1 wanted address h (omega arith) ∙ rw (blank.erased address (omega (arith, blank.large)), eq-eqb (bit_and 255 x) x kept) refl

  region : RegionAccepted s array 1 wanted
  region = record {
    sound = blank.sound;
    sized = blank.sized;
    short = omega arith;
    fits = omega (arith, blank);
    ready = blank.ready;
    no_aai = blank.no_aai;
    awake = blank.awake;
    falls = wants_none array 1 wanted falls;
  }

  -- a byte of the region changes unless FF is wanted
  changing : (k : ℕ) → 1 ≤ k → k ≤ 4096 → (x : ℕ) → get_or wanted (k - 1) 0 ≡ x → d k ≡ not (eqb 255 x)
  changing k h l x e = changes_inside array 1 wanted k h (omega arith) ∙ rw (blank.erased k (omega (arith, blank.large)), e) refl

  -- a word changes with its first byte; the first word has only its second in the region
  word_with : (a : ℕ) → (1 ≤ a → d a ≡ true) → (a < 1 → d (a + 1) ≡ true) → word_changes d a ≡ true
  word_with a first second =
      imp_or (d a) (d (a + 1)) (λ off. ⊎_elim (λ none. second none) (λ some. absurd (true≢false (sym (first some) ∙ off))) (split a 1))

  -- the first byte changes: step 1 is needed
  needed : d 1 ≡ true → step_one_needed s array 1 wanted ≡ true
  needed c =
      cases (step_one_needed s array 1 wanted) (λ e. e)
      (λ e. let free = not_needed_free s array 1 wanted e 1 c in absurd (omega (arith, blank.protected)))

  -- ---- every byte is to be 00

  module _ (zeros : (i : ℕ) → i < 4096 → get_or wanted i 0 ≡ 0) where
    all : (k : ℕ) → 1 ≤ k → k < 1 + length wanted → d k ≡ true
    all k h l = changing k h (omega arith) 0 (zeros (k - 1) (omega arith))

    -- 17 pages
    pub pages_reached : (data_of s).word_plans ≡ false → Reaches s wp array 1 wanted (with_waits (data_of s).status_time worst_by_pages)
    pages_reached e =
        let step = pages_step_whole d 1 (length wanted) (change_in_region array 1 wanted) all (wanted_at 1 wanted) (pages_in 1 (length wanted)) 0
        (omega arith) (omega arith) (omega arith) (omega arith) (omega arith) in
        reaches s wp array 1 wanted region blank.unlocked (with_waits (data_of s).status_time worst_by_pages)
        (plan_measure s array 1 wanted
        ∙ rw (needed (all 1 (omega arith) (omega arith)), program_pages (data_of s).word_plans array 1 wanted e, step, with_status_needed, long) refl)

    -- one run of 2,049 words
    word_changes_lem : (a : ℕ) → 0 ≤ a → a + 1 < 0 + 2 * 2049 → word_changes d a ≡ true
    word_changes_lem a h l = word_with a (λ some. all a some (omega arith)) (λ none. all (a + 1) (omega arith) (omega arith))

    pub one_run_reached : (data_of s).word_plans ≡ true → Reaches s wp array 1 wanted most_time
    one_run_reached e =
        let step = words_step_counted (wanted_at 1 wanted) d 2049 0 (one_run d 2048 0 word_changes_lem) in
        reaches s wp array 1 wanted region blank.unlocked most_time
        (plan_measure s array 1 wanted
        ∙ rw (needed (all 1 (omega arith) (omega arith)), program_words (data_of s).word_plans array 1 wanted e, long, step, words_at_once s.chip e, with_status_needed) refl)

  -- ---- every second word is to be 00, the words between FF

  module _ (zeros : (i : ℕ) → i < 4096 → (1 + i) % 4 < 2 → get_or wanted i 0 ≡ 0) (ones : (i : ℕ) → i < 4096 → 2 ≤ (1 + i) % 4 → get_or wanted i 0 ≡ 0xff) where
    falling : (k : ℕ) → 1 ≤ k → k ≤ 4096 → k % 4 < 2 → d k ≡ true
    falling k h l e = changing k h l 0 (zeros (k - 1) (omega arith) (omega arith))

    standing : (k : ℕ) → 1 ≤ k → k ≤ 4096 → 2 ≤ k % 4 → d k ≡ false
    standing k h l e = changing k h l 255 (ones (k - 1) (omega arith) (omega arith))

    second_changes : (a : ℕ) → 0 ≤ a → a ≤ 0 + 4 * 1024 → a % 4 ≡ 0 → word_changes d a ≡ true
    second_changes a h l e =
        word_with a (λ some. falling a some (omega arith) (omega arith)) (λ none. falling (a + 1) (omega arith) (omega arith) (omega arith))

    between_stays : (a : ℕ) → 0 ≤ a → a ≤ 0 + 4 * 1024 → a % 4 ≡ 2 → word_changes d a ≡ false
    between_stays a h l e =
        or_none_i (standing a (omega arith) (omega arith) (omega arith)) (standing (a + 1) (omega arith) (omega arith) (omega arith))

    -- 1,025 runs of one word
    pub single_words_reached : (data_of s).word_plans ≡ true → Reaches s wp array 1 wanted most_frames
    single_words_reached e =
        let step = words_step_counted (wanted_at 1 wanted) d 2049 0 (single_words d 1024 0 refl second_changes between_stays) in
        reaches s wp array 1 wanted region blank.unlocked most_frames
        (plan_measure s array 1 wanted
        ∙ rw (needed (falling 1 (omega arith) (omega arith) (omega arith)), program_words (data_of s).word_plans array 1 wanted e, long, step, words_at_once s.chip e, with_status_needed)
        refl)

-- Step 2 of a plan runs: words in runs, on a chip whose plans go by words. Wherever it is cut, the array is on its way.
-- Assumes nothing.
use mathlib.Core.Path.{◌≡◌, refl, ap, ◌∙◌}
use mathlib.Core.Bool.{Bool, true, false}
use mathlib.Core.List.{List, [], ◌∷◌, ◌++◌}
use mathlib.Core.Logic.{⊎_elim}
use Prim.Native.Nat.{ℕ, zero, suc, ◌+◌, ◌*◌, ◌%◌, ◌≤◌, ◌<◌}
use native.Mathlib.Nat.{add-zero}
use native.Mathlib.Omega.{arith}
use lib.Dec.{eqb}
use lib.ListN.{length, get_or}
use borrow.Author.Tests.{eqb-true, eqb-false}
use Rattle.common.specs.Lists.{mapi}
use Rattle.common.proofs.Laws.Booleans.{or_imp, or_none_l, or_none_r}
use Rattle.common.proofs.Laws.Choice.{cases}
use Rattle.common.proofs.Laws.Lists.{split}
use Rattle.state.specs.declared.State.{State}
use Rattle.state.specs.State.{data_of}
use Rattle.state.proofs.Laws.Protection.{first_border}
use Rattle.command.specs.declared.Command.TheVariants.{WriteEnable, WriteDisable, ProgramWord}
use Rattle.registers.proofs.Laws.After.{after_write_enable, after_write_disable, after_program_word}
use Rattle.script.specs.Record.{Record, wait}
use Rattle.effect.proofs.Laws.Straight.{program_touches}
use Rattle.effect.specs.declared.Effect.TheVariants.{Program}
use Rattle.effect.specs.Effect.{changed}
use Rattle.common.specs.Numbers.{address_bytes}
use Rattle.words.specs.Words.{word_bytes, word_changes, words_step}
use Rattle.words.specs.Walk.{words}
use Rattle.words.proofs.Laws.Runs.{words_are_runs}
use Rattle.words.proofs.Laws.Words.{words_ended, words_closed, word_begins, word_goes_on, word_ends, word_skipped}
use Rattle.powercut.specs.PowerCut.{state_after_plan}
use Rattle.powercut.proofs.Laws.States.{rest, running, border, quiet_stays}
use Rattle.powercut.proofs.Laws.Near.{Programs, Settled, program_programs, near_changed, settled_touched, settled_changed, settled_start}
use Rattle.powercut.proofs.Laws.Safe.{Task, HeldBy}
use Rattle.powercut.proofs.Laws.Run.{Done, Runs, OnItsWay, ran_nil, ran_frame, ran_quiet, ran_wait}
use Rattle.powercut.proofs.Laws.Frames.{write_enable, write_disable, word_first, word_further, run_closed, word_done, last_word_done}

-- where the chip stands before the word at an address: outside a run; in one, AAI to go on there; in one that has met the protected part
data Mode (s : State) (bp : ℕ) : Bool → ℕ → State → Type 0 where
  outside : {a : ℕ} (wel armed : Bool) → Mode s bp false a (rest s bp wel armed)
  inside : {a : ℕ} → a < border s bp → Mode s bp true a (running s bp 0 a)
  ended : {a : ℕ} → border s bp ≤ a → Mode s bp true a (rest s bp false false)

-- where it stands behind the last: a run leaves WEL and armed 0
abbrev behind : State → ℕ → Bool → List Record → State → State
behind s bp true rs now = rest s bp false false
behind s bp false rs now = state_after_plan rs now

-- a word is sent as wanted, from the frame's byte i on
word_programs : (w : ℕ → ℕ) (a i : ℕ) (f : List ℕ) → get_or f i 0 ≡ w a → get_or f (i + 1) 0 ≡ w (a + 1) → Programs w (Program a 2 i) f
word_programs w a i f x y = program_programs w f a 2 i sent
  where
    sent : (j : ℕ) → j < 2 → get_or f (i + j) 0 ≡ w (a + j)
    sent zero h = rw (add-zero i, add-zero a) x
    sent (suc zero) h = y
    sent (suc (suc j)) h = absurd (omega arith)

module _ (t : Task) (d : ℕ → Bool) (bp : ℕ) (held : HeldBy t.chip.state (rest t.chip.state bp false false)) (has_words : (data_of t.chip.state).word_plans ≡ true)
    (calm : (k : ℕ) → d k ≡ false → k < length t.chip.array → Settled t.want t.chip.array k)
    (free : (k : ℕ) → d k ≡ true → k < border t.chip.state bp) where
  abbrev s : State
  s = t.chip.state

  abbrev w : ℕ → ℕ
  w = t.want

  abbrev WordsRun : ℕ → Type 0
  WordsRun n = (q : Bool) (a : ℕ) (now : State) (array : List ℕ) (z : ℕ) → z ≤ a + n * 2 → a % 2 ≡ 0 → Mode s bp q a now → OnItsWay t array → Done t a array
      → Runs t (behind s bp q (words w d q n a) now) z (words w d q n a) now array

  -- the script ends here, at rest
  stop : (a z : ℕ) (wel armed : Bool) (array : List ℕ) → z ≤ a → OnItsWay t array → Done t a array → Runs t (rest s bp wel armed) z [] (rest s bp wel armed) array
  stop a z wel armed array h near done = ran_nil t z held near (λ k i. done k (omega arith))

  -- behind the last word
  words_end : WordsRun 0
  words_end q a now array z h e (outside wel armed) near done = rw (words_ended w d a) (stop a z wel armed array (omega arith) near done)
  words_end q a now array z h e (inside l) near done =
      rw (words_closed w d a)
      (ran_quiet t WriteDisable (run_closed t.level s bp a) refl held near
      (rw (after_write_disable (running s bp 0 a)) (stop a z false false array (omega arith) near done)))
  words_end q a now array z h e (ended l) near done =
      rw (words_closed w d a)
      (ran_quiet t WriteDisable (write_disable t.level s bp false false) refl held near
      (rw (after_write_disable (rest s bp false false)) (stop a z false false array (omega arith) near done)))

  -- a word that does not change is settled as it stands
  skipped : (a : ℕ) (array : List ℕ) → word_changes d a ≡ false → OnItsWay t array → Done t a array → Done t (a + 2) array
  skipped a array e near done k h l =
      ⊎_elim (λ i. done k i l)
      (λ i. settled_start t.chip.array w array near k l (calm k
      (cases (eqb k a) (λ j. ap d (eqb-true k a j) ∙ or_none_l (d a) (d (a + 1)) e)
      (λ j. let next : k ≡ a + 1 = omega (arith, eqb-false k a j) in ap d next ∙ or_none_r (d a) (d (a + 1)) e)) l))
      (split k a)

  -- a word that changes is free, and so is its neighbour: what is protected is whole blocks
  word_free : (a : ℕ) → a % 2 ≡ 0 → word_changes d a ≡ true → a + 2 ≤ border s bp
  word_free a e c =
      let b = (first_border (rest s bp false false)).blocks in
      cases (d a) (λ h. omega (arith, free a h)) (λ h. omega (arith, free (a + 1) (or_imp (d a) (d (a + 1)) c h)))

  -- behind a word's frame: its wait, and the words that follow
  module _ (n a i : ℕ) (f array : List ℕ) (programs : Programs w (Program a 2 i) f) (then : WordsRun n) where
    abbrev after : List ℕ
    after = mapi (changed (Program a 2 i) f) array

    written : OnItsWay t array → Done t a array → Done t (a + 2) after
    written near done k h l =
        ⊎_elim (λ b. settled_changed t.chip.array w array near (Program a 2 i) f programs k l (done k b l))
        (λ b. settled_touched t.chip.array w array near (Program a 2 i) f programs k l (program_touches a 2 i k b h)) (split k a)

    word_waited : (z : ℕ) → z ≤ a + suc n * 2 → a % 2 ≡ 0 → OnItsWay t array → Done t a array
        → Runs t (rest s bp false false) z (wait 7 ∷ words w d true n (a + 2)) (running s bp 7 (a + 2)) after
    word_waited z h e near done =
        let near_then = near_changed t.chip.array w array near (Program a 2 i) f programs in
        let done_then = written near done in
        ⊎_elim
        (λ l. ran_wait t (running s bp 0 (a + 2)) (word_done s bp (a + 2) l) held near_then
        (then true (a + 2) (running s bp 0 (a + 2)) after z (omega arith) (omega arith) (inside l) near_then done_then))
        (λ l. ran_wait t (rest s bp false false) (last_word_done s bp (a + 2) l) held near_then
        (then true (a + 2) (rest s bp false false) after z (omega arith) (omega arith) (ended l) near_then done_then))
        (split (a + 2) (border s bp))

  -- behind the frame that closes a run
  closed : (n a : ℕ) (array : List ℕ) (z : ℕ) → WordsRun n → z ≤ a + suc n * 2 → a % 2 ≡ 0 → word_changes d a ≡ false → OnItsWay t array → Done t a array
      → Runs t (rest s bp false false) z (words w d false n (a + 2)) (rest s bp false false) array
  closed n a array z then h e c near done =
      rw (quiet_stays s bp (words w d false n (a + 2))) at
      (then false (a + 2) (rest s bp false false) array z (omega arith) (omega arith) (outside false false) near (skipped a array c near done))

  words_more : (n : ℕ) → WordsRun n → WordsRun (suc n)
  words_more n then q a now array z h e (outside wel armed) near done =
      cases (word_changes d a)
      (λ c. let l = word_free a e c in
      let programs = word_programs w a 4 (0xad ∷ (address_bytes a ++ word_bytes w a)) refl refl in
      rw (word_begins w d a n c)
      (ran_quiet t WriteEnable (write_enable t.level s bp wel armed) refl held near
      (rw (after_write_enable (rest s bp wel armed))
      (ran_frame t (ProgramWord a 4) (word_first t.level s bp true a (w a) (w (a + 1)) has_words e l) programs held near
      (rw (after_program_word (rest s bp true true) a 4)
      (word_waited n a 4 (0xad ∷ (address_bytes a ++ word_bytes w a)) array programs then z h e near done))))))
      (λ c. rw (word_skipped w d a n c) (then false (a + 2) now array z (omega arith) (omega arith) (outside wel armed) near (skipped a array c near done)))
  words_more n then q a now array z h e (inside l) near done =
      cases (word_changes d a)
      (λ c. let programs = word_programs w a 1 (0xad ∷ word_bytes w a) refl refl in
      rw (word_goes_on w d a n c)
      (ran_frame t (ProgramWord a 1) (word_further t.level s bp a (w a) (w (a + 1)) (word_free a e c)) programs held near
      (rw (after_program_word (running s bp 0 a) a 1) (word_waited n a 1 (0xad ∷ word_bytes w a) array programs then z h e near done))))
      (λ c. rw (word_ends w d a n c) (ran_quiet t WriteDisable (run_closed t.level s bp a) refl held near
      (rw (after_write_disable (running s bp 0 a)) (closed n a array z then h e c near done))))
  words_more n then q a now array z h e (ended l) near done =
      cases (word_changes d a) (λ c. absurd (omega (arith, word_free a e c)))
      (λ c. rw (word_ends w d a n c) (ran_quiet t WriteDisable (write_disable t.level s bp false false) refl held near
      (rw (after_write_disable (rest s bp false false)) (closed n a array z then h e c near done))))

  all_words : (n : ℕ) → WordsRun n
  all_words zero = words_end
  all_words (suc n) = words_more n (all_words n)

  pub words_ran : (n a z : ℕ) (wel armed : Bool) (array : List ℕ) → z ≤ a + n * 2 → a % 2 ≡ 0 → OnItsWay t array → Done t a array
      → Runs t (state_after_plan (words_step w d n a) (rest s bp wel armed)) z (words_step w d n a) (rest s bp wel armed) array
  words_ran n a z wel armed array h e near done =
      rw (← (words_are_runs w d n a)) (all_words n false a (rest s bp wel armed) array z h e (outside wel armed) near done)

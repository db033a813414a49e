-- Soundness: the calls' test and the document's words say the same, and no call leaves a state that is not sound.
-- Assumes nothing.
use mathlib.Core.Path.{◌≡◌, refl, sym, ap, ◌∙◌}
use mathlib.Core.Bool.{Bool, true, false≢true, true≢false}
use mathlib.Core.Logic.{⊎_elim}
use native.Mathlib.Omega.{arith}
use Rattle.chip.specs.declared.Chip.{Chip}
use Rattle.chip.specs.Chip.{f25l008a, f25l05pa, is_known}
use Rattle.chip.proofs.Laws.Chip.{known_8, known_5, chip_of_8, chip_of_5, known_number}
use Rattle.state.specs.declared.State.{State}
use Rattle.state.specs.declared.Answer.{Answer}
use Rattle.state.specs.State.{data_of}
use Rattle.state.specs.Soundness.{is_sound, Sound}
use Rattle.state.specs.Power.{power_up}
use Rattle.state.proofs.Laws.Soundness.{sound_of, of_sound}
use Rattle.state.proofs.Laws.Power.{new_sound, powered_up_sound, power_up_granted}
use Rattle.state.proofs.Laws.Passed.{pass_time_sound}
use Rattle.frame.specs.Device.{Device}
use Rattle.frame.proofs.Laws.Sound.{frame_sound, cut_sound}
use Rattle.run.proofs.Laws.Script.{script_sound}
use Rattle.state.specs.declared.Told.{Told}
use Rattle.book.proofs.Laws.Answers.{is_read_state, count_state, marks_state}
use Rattle.flags.proofs.Laws.Answers.{name_state, name_marks_state, moves_state, returns_state}
use Rattle.rules.specs.Soundness.{SoundState, Soundness, EveryCallSound}
use Rattle.rules.proofs.Laws.Chips.{data_by_chip}
use Rattle.rules.proofs.Laws.StatusByte.{bits_of}
use Rattle.rules.proofs.Laws.Tests.{off}

module _ (s : State) where
  -- one thing of the chip's data, on either chip
  on_008a_lem : {A : Type 0} (thing : Chip → A) → s.chip ≡ 8 → thing (data_of s) ≡ thing f25l008a
  on_008a_lem thing e = rw e (ap thing chip_of_8)

  on_05pa_lem : {A : Type 0} (thing : Chip → A) → s.chip ≡ 5 → thing (data_of s) ≡ thing f25l05pa
  on_05pa_lem thing e = rw e (ap thing chip_of_5)

  -- ---- from the test to the words

  words : Sound s → SoundState s
  words h = record {
    number_8_or_5 = known_number s.chip h.chip_known;
    bp_three_bits = omega (arith, h.bp_le_7);
    left_at_most = rw (data_by_chip s.chip h.chip_known (λ c. c.chip_time)) at h.left_le_chip_time;
    busy_wel = λ b. (h.while_busy b).enabled;
    busy_not_armed = λ b. (h.while_busy b).disarmed;
    busy_not_power_down = λ b. (h.while_busy b).awake;
    never_together = λ a p. true≢false (sym p ∙ h.armed_awake a);
    armed_needs_wel = λ e a. h.armed_enabled (on_05pa_lem (λ c. c.ewsr) e) a;
    no_tb = λ e. off s.tb (λ t. false≢true (sym (on_008a_lem (λ c. c.top_bottom) e) ∙ h.tb_had t));
    no_power_down = λ e. off s.power_down (λ t. false≢true (sym (on_008a_lem (λ c. c.sleeps) e) ∙ h.power_down_had t));
    no_aai = λ e. off s.aai (λ t. false≢true (sym (on_05pa_lem (λ c. c.aai) e) ∙ h.aai_had t));
    without_aai = h.next_0_without_aai;
    aai_wel = λ a. (h.in_aai_lem a).enabled;
    aai_not_armed = λ a. (h.in_aai_lem a).disarmed;
    aai_left_at_most_7 = λ a. (h.in_aai_lem a).left_le_7;
    aai_next_even = λ a. (h.in_aai_lem a).next_even;
    aai_next_at_least_2 = λ a. (h.in_aai_lem a).next_ge_2;
    aai_next_at_most = λ a. (h.in_aai_lem a).next_le_first;
    aai_next_below = λ a. (h.in_aai_lem a).next_lt_first;
    pending_busy = λ p. (h.while_pending p).busy;
    pending_05pa = λ p. ⊎_elim (λ e. absurd (omega (arith, on_008a_lem (λ c. c.status_time) e, (h.while_pending p).takes_time))) (λ e. e)
        (known_number s.chip h.chip_known);
    without_pending = h.bits_0_without_pending;
    pending_writable = h.bits_writable ∙ bits_of s.pending_bits;
  }

  -- ---- and back

  module _ (w : SoundState s) where
    known : is_known s.chip ≡ true
    known = ⊎_elim (λ e. rw e known_8) (λ e. rw e known_5) w.number_8_or_5

    -- what only one of the chips has
    had : (has : Chip → Bool) (b : Bool) → (s.chip ≡ 8 → b ≡ true → has f25l008a ≡ true) → (s.chip ≡ 5 → b ≡ true → has f25l05pa ≡ true)
        → b ≡ true → has (data_of s) ≡ true
    had has b big small t = ⊎_elim (λ e. on_008a_lem has e ∙ big e t) (λ e. on_05pa_lem has e ∙ small e t) w.number_8_or_5

    sound : Sound s
    sound = record {
      chip_known = known;
      bp_le_7 = omega (arith, w.bp_three_bits);
      left_le_chip_time = rw (data_by_chip s.chip known (λ c. c.chip_time)) w.left_at_most;
      while_busy = λ b. record { enabled = w.busy_wel b; disarmed = w.busy_not_armed b; awake = w.busy_not_power_down b };
      armed_awake = λ a. off s.power_down (w.never_together a);
      armed_enabled = λ e a. ⊎_elim (λ q. absurd (true≢false (sym (on_008a_lem (λ c. c.ewsr) q) ∙ e))) (λ q. w.armed_needs_wel q a) w.number_8_or_5;
      tb_had = had (λ c. c.top_bottom) s.tb (λ e t. absurd (true≢false (sym t ∙ w.no_tb e))) (λ _ _. refl);
      power_down_had = had (λ c. c.sleeps) s.power_down (λ e t. absurd (true≢false (sym t ∙ w.no_power_down e))) (λ _ _. refl);
      aai_had = had (λ c. c.aai) s.aai (λ _ _. refl) (λ e t. absurd (true≢false (sym t ∙ w.no_aai e)));
      next_0_without_aai = w.without_aai;
      in_aai_lem = λ a. record {
        enabled = w.aai_wel a;
        disarmed = w.aai_not_armed a;
        left_le_7 = w.aai_left_at_most_7 a;
        next_even = w.aai_next_even a;
        next_ge_2 = w.aai_next_at_least_2 a;
        next_le_first = w.aai_next_at_most a;
        next_lt_first = w.aai_next_below a;
      };
      while_pending = λ p. record { busy = w.pending_busy p; takes_time = omega (arith, on_05pa_lem (λ c. c.status_time) (w.pending_05pa p)) };
      bits_0_without_pending = w.without_pending;
      bits_writable = w.pending_writable ∙ sym (bits_of s.pending_bits);
    }

  pub soundness : Soundness s
  soundness = record { sound_when = record { when = λ e. words (sound_of s e); only_when = λ w. of_sound s (sound w) } }

power_up_sound : (s : State) → is_sound s ≡ true → is_sound (power_up s).state ≡ true
power_up_sound s h =
    let sound = sound_of s h in
    ap (λ (a : Answer). is_sound a.state) (power_up_granted s sound) ∙ of_sound _ (powered_up_sound s sound)

pub every_call_sound : EveryCallSound
every_call_sound = record {
  new_chip_lem = λ number answer e. ap (λ (a : Answer). is_sound a.state) e ∙ new_sound number;
  power_up_lem = λ s answer e h. ap (λ (a : Answer). is_sound a.state) e ∙ power_up_sound s h;
  pass_time_lem = λ s n answer e h. ap (λ (a : Answer). is_sound a.state) e ∙ pass_time_sound s n h;
  run_frame = λ wp f d line number after shown r h. ap (λ (e : Device). is_sound e.state) r.device_is ∙ frame_sound wp f d line h;
  run_cut_frame = λ wp f mask d line number after shown r h. ap (λ (e : Device). is_sound e.state) r.device_is ∙ cut_sound wp f d line mask h;
  run_script = λ wp script d line ran after shown r h. (
    ap is_sound r.state_is ∙ script_sound wp script d line h,
    ap (λ (e : Device). is_sound e.state) r.device_is ∙ script_sound wp script d line h,
  );
  plan_update = λ s wp array start wanted buffer after planned r h. ap is_sound r.state ∙ h;
  book_is_read = λ s array sector scene told e h. ap (λ (t : Told). is_sound t.state) e ∙ ap is_sound (is_read_state s array sector scene) ∙ h;
  book_count = λ s array sector told e h. ap (λ (t : Told). is_sound t.state) e ∙ ap is_sound (count_state s array sector) ∙ h;
  book_mark = λ s wp array sector scenes buffer after planned m h. ap is_sound (marks_state s wp array sector scenes buffer after planned m) ∙ h;
  names_is_read = λ s array sector name told e h. ap (λ (t : Told). is_sound t.state) e ∙ ap is_sound (name_state s array sector name) ∙ h;
  names_mark = λ s wp array sector name buffer after planned m h. ap is_sound (name_marks_state s wp array sector name buffer after planned m) ∙ h;
  names_move = λ s wp array book sector list buffer after planned m h. ap is_sound (moves_state s wp array book sector list buffer after planned m) ∙ h;
  names_back = λ s wp array sector book list buffer after r m h. ap is_sound (returns_state s wp array sector book list buffer after r m) ∙ h;
}

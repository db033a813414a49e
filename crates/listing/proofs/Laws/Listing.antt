-- The laws of `listing`: what a run on a new chip tells of it, how long it is, what it is at the edges. Two results of the call are equal.
-- Assumes nothing.
use mathlib.Core.Path.{◌≡◌, refl, sym, ap, ◌∙◌}
use mathlib.Core.Bool.{true}
use mathlib.Core.List.{List, [], ◌∷◌, ◌++◌}
use mathlib.Core.Logic.{◌⊎◌, inl, inr}
use Prim.Native.Nat.{ℕ, ◌/◌, ◌%◌, ◌≤◌, ◌<◌}
use native.Mathlib.Omega.{arith}
use lib.ListN.{length, replicate, length-append, length-replicate}
use borrow.Author.Tests.{lt-ltb, le-ltb}
use Rattle.common.proofs.Laws.Choice.{yes}
use Rattle.chip.specs.Chip.{is_known, chip_of}
use Rattle.state.specs.State.{data_of}
use Rattle.state.specs.Power.{new_state, new_chip}
use Rattle.state.specs.Status.{status_of}
use Rattle.state.proofs.Laws.Power.{new_sound, new_chip_known}
use Rattle.state.proofs.Laws.Soundness.{sound_of}
use Rattle.chip.proofs.Laws.Chip.{known_5, chip_of_5}
use Rattle.script.specs.Record.{Record}
use Rattle.common.specs.Limits.{longest_script}
use Rattle.common.specs.Refusals.{script_too_long}
use Rattle.script.specs.Decode.{Fault, unknown_mark, wrong_length, cut_short, fault_number, records, bad_at, decode, decode_within, records_of}
use Rattle.script.specs.Survey.{survey_of, surveyed, refused_survey}
use Rattle.script.specs.declared.survey.Surveyed.{Surveyed}
use Rattle.script.proofs.Laws.Decode.{decoded_length, decoded_output}
use Rattle.script.proofs.Laws.Bad.{bad_inside}
use Rattle.script.proofs.Laws.Survey.{fault_numbered, survey_by, survey_output}
use Rattle.run.specs.declared.Ran.{Ran}
use Rattle.frame.specs.Device.{Device}
use Rattle.frame.specs.Line.{Line, Long}
use Rattle.run.specs.Run.{run, shown_by_all}
use Rattle.run.specs.Script.{script_number, ScriptAccepted, carries_offset, ScriptRun}
use Rattle.run.proofs.Laws.Accepted.{number_accepted, number_by_survey, fault_carries, survey_located, script_located}
use Rattle.run.proofs.Laws.Script.{script_ran}
use Rattle.run.proofs.Laws.Run.{shown_by_all_long, Ready}
use Rattle.common.specs.Buffer.{Put}
use Rattle.text.specs.Text.{digit, pair, hex, decimal_end, line_feed, line}
use Rattle.listing.specs.Listing.{longest_listing, high, erased, new05pa, status_line, refusal_line, why_refused, frame_lines, decoded_lines, listing, cut_lines}
use Rattle.text.proofs.Laws.Text.{hex_none, hex_first, digit_low}
use Rattle.text.proofs.Laws.Decimal.{decimal_two, decimals_line_one, decimals_line_short}
use Rattle.listing.proofs.Laws.Frames.{lines_cut, cut_length}

-- ---- a script's survey

-- by the script's length, and by what its bytes are
by_survey_lem : (P : List ℕ → Surveyed → List ℕ → Type 0)
    → ((script : List ℕ) → longest_script < length script → P script (refused_survey script_too_long 0) (refusal_line script_too_long))
    → ((script : List ℕ) (rs : List Record) → length script ≤ longest_script → decode script ≡ records rs → P script (surveyed (records rs)) (decoded_lines (records rs)))
    → ((script : List ℕ) (fault : Fault) (offset : ℕ) → length script ≤ longest_script → decode script ≡ bad_at fault offset
    → P script (surveyed (bad_at fault offset)) (decoded_lines (bad_at fault offset)))
    → (script : List ℕ) → P script (survey_of script) (listing script)
unfolding listing
by_survey_lem P long good bad script =
    survey_by (λ s. P script s (listing script)) script (λ h. rw (lt-ltb longest_script (length script) h) (long script h))
    (λ rs short e. rw (le-ltb longest_script (length script) short, e) (good script rs short e))
    (λ fault offset short e. rw (le-ltb longest_script (length script) short, e) (bad script fault offset short e))

-- a script is run, too long, or has a bad record
pub number_cases : (script : List ℕ) → ((survey_of script).number ≡ 0) ⊎ ((survey_of script).number ≡ 11) ⊎ (carries_offset (survey_of script).number ≡ true)
number_cases =
    by_survey_lem (λ script s text. (s.number ≡ 0) ⊎ (s.number ≡ 11) ⊎ (carries_offset s.number ≡ true)) (λ _ _. inr (inl refl)) (λ _ _ _ _. inl refl)
    (λ _ fault _ _ _. inr (inr (fault_carries fault)))

-- what is printed of a refusal has at most five digits: its number, and its offset
fault_small : (fault : Fault) → fault_number fault < decimal_end
fault_small unknown_mark = omega arith
fault_small wrong_length = omega arith
fault_small cut_short = omega arith

pub number_small : (script : List ℕ) → (survey_of script).number < decimal_end
number_small = by_survey_lem (λ script s text. s.number < decimal_end) (λ _ _. omega arith) (λ _ _ _ _. omega arith) (λ _ fault _ _ _. fault_small fault)

pub offset_small : (script : List ℕ) → (survey_of script).offset < decimal_end
offset_small =
    by_survey_lem (λ script s text. s.offset < decimal_end) (λ _ _. omega arith) (λ _ _ _ _. omega arith)
    (λ script fault offset short e. omega (arith, short, bad_inside script e))

-- what the frames show is no longer than the longest script
pub output_small : (script : List ℕ) → (survey_of script).output ≤ longest_script
output_small =
    by_survey_lem (λ script s text. s.output ≤ longest_script) (λ _ _. omega arith)
    (λ script rs short e. omega (arith, short, decoded_output script rs e)) (λ _ _ _ _ _. omega arith)

-- the status has its two digits and never a dash, so the last line has five characters
pub status_digits : (d : Device)
    → status_line d ≡ 0x53 ∷ 0x20 ∷ digit (status_of d.state / 16) ∷ digit (status_of d.state % 16) ∷ line_feed ∷ []
status_digits d =
    let status : ℕ = status_of d.state in
    ap (λ (told : List ℕ). line 0x53 told) (hex_first status [] ∙ ap (λ (others : List ℕ). pair status ++ others) hex_none)

status_length : (d : Device) → length (status_line d) ≡ 5
status_length d = ap length (status_digits d)

-- two characters for each byte of the longest script, and the last line's five
pub listing_fits : (script : List ℕ) → length (listing script) ≤ longest_listing
listing_fits =
    by_survey_lem (λ script s text. length text ≤ longest_listing) (λ _ _. omega (arith, decimals_line_short 0x52 (script_too_long ∷ [])))
    (λ script rs short e. let d = run high rs new05pa in
    rw (lines_cut rs new05pa)
    (omega (
      arith,
      length-append (cut_lines rs (shown_by_all high rs new05pa)) (status_line d),
      cut_length rs (shown_by_all high rs new05pa),
      decoded_length script rs e,
      status_length d,
    )))
    (λ _ fault offset _ _. omega (arith, decimals_line_short 0x52 (fault_number fault ∷ offset ∷ [])))

-- ---- a run on a new chip

-- a refused script, and one that is run
pub listing_refused : (script : List ℕ) → ((survey_of script).number ≡ 0 → ⊥) → listing script ≡ why_refused (survey_of script).number (survey_of script).offset
listing_refused =
    by_survey_lem (λ script s text. (s.number ≡ 0 → ⊥) → text ≡ why_refused s.number s.offset) (λ _ _ _. refl) (λ _ _ _ _ h. absurd (h refl))
    (λ _ fault _ _ _ _. yes _ (fault_carries fault) refl)

pub listing_run : (script : List ℕ) → (survey_of script).number ≡ 0
    → listing script ≡ frame_lines (records_of script) new05pa ++ status_line (run high (records_of script) new05pa)
listing_run =
    by_survey_lem
    (λ script s text. s.number ≡ 0 → text ≡ frame_lines (records_of script) new05pa ++ status_line (run high (records_of script) new05pa))
    (λ _ _ e. absurd (omega (arith, e))) (λ script rs short d _. rw d refl) (λ _ fault _ _ _ e. absurd (omega (arith, e, fault_numbered fault)))

-- the array's bytes, and that the chip takes every frame that fits
pub erased_is : erased ≡ replicate 65536 0xff
unfolding erased
erased_is = refl

erased_length : length erased ≡ (data_of (new_chip 5).state).size
unfolding erased
erased_length = rw (new_chip_known 5 known_5, chip_of_5) (length-replicate {A = ℕ} 65536 0xff)

pub new_ready : Ready new05pa
new_ready = record { sound = sound_of new05pa.state (new_sound 5); sized = erased_length }

-- with room for what the frames show: what the answer and the line tell
module _ {script : List ℕ} {room shown : Line} {ran : Ran} {after : Device} (lent : Long (survey_of script).output room)
    (r : ScriptRun high script new05pa room ran after shown) where
  number_is : script_number high script new05pa room ≡ (survey_of script).number
  number_is = number_by_survey high script new05pa room (new_sound 5) erased_length lent

  pub ran_number : ran.number ≡ (survey_of script).number
  ran_number = r.number_is ∙ number_is

  pub ran_offset : ran.offset ≡ (survey_of script).offset
  ran_offset = r.offset_is ∙ script_located high script new05pa room ∙ rw number_is (sym (survey_located script))

  module _ (e : ran.number ≡ 0) where
    accepted : ScriptAccepted high script new05pa room
    accepted = number_accepted high script new05pa room (sym r.number_is ∙ e)

    ran_state : ran.state ≡ (run high (records_of script) new05pa).state
    ran_state = r.state_is ∙ sym (script_ran high script new05pa room accepted).state_is

    ran_shown : shown ≡ shown_by_all high (records_of script) new05pa
    ran_shown = r.line_is ∙ sym (script_ran high script new05pa room accepted).line_is

    pub ran_long : Long (survey_of script).output shown
    ran_long = rw (ran_shown, ← survey_output script (sym ran_number ∙ e)) (shown_by_all_long high (records_of script) new05pa)

    pub ran_listing : listing script ≡ cut_lines (records_of script) shown ++ line 0x53 (hex (status_of ran.state ∷ []))
    ran_listing =
        rw (ran_shown, ran_state, ← lines_cut (records_of script) new05pa) (listing_run script (sym ran_number ∙ e))

-- ---- edges

-- the empty input: "S 00" alone
pub listing_empty : listing [] ≡ 0x53 ∷ 0x20 ∷ 0x30 ∷ 0x30 ∷ 0x0a ∷ []
unfolding listing decode decode_within frame_lines run status_of new_chip new_state is_known chip_of hex digit
listing_empty = refl

-- over 32,768 bytes: "R 11"
pub listing_long : (script : List ℕ) → longest_script < length script → listing script ≡ 0x52 ∷ 0x20 ∷ 0x31 ∷ 0x31 ∷ 0x0a ∷ []
unfolding listing
listing_long script h =
    rw (lt-ltb longest_script (length script) h)
    (decimals_line_one 0x52 script_too_long ∙ rw (decimal_two script_too_long (omega arith) (omega arith), digit_low 1 (omega arith)) refl)

pub listing_determined : (script text : List ℕ) (after after' : List ℕ) (n n' : ℕ) → Put 0 (listing script) text after n → Put 0 (listing script) text after' n'
    → (n ≡ n') × (after ≡ after')
listing_determined script text after after' n n' p q = (p.behind ∙ sym q.behind, p.stored ∙ sym q.stored)

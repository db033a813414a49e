-- A whole script looked through without running it (02, A1): what it counts, or what is wrong with it and where.
use Rattle.std.specs.Prelude.{Bool, cond, List, [], ◌∷◌, ℕ, ltb, length, Result, Ok, Err}
use Rattle.script.specs.Record.{frames_in, microseconds_in, output_length}
use Rattle.common.specs.Limits.{longest_script}
use Rattle.common.specs.Refusals.{script_too_long, unknown_mark, wrong_length, cut_short, number_of}
use Rattle.common.specs.declared.refusals.Refusal.{Refusal}
use Rattle.common.specs.declared.refusals.Refusal.TheVariants.{ScriptTooLong}
use Rattle.script.specs.Reader.{refusal_of}
use Rattle.script.specs.Decode.{is_unknown_mark, is_wrong_length, is_cut_short, fault_number, Decoded, records, bad_at, is_bad, decode}
use Rattle.script.specs.declared.survey.Counts.{Counts}
use Rattle.script.specs.declared.survey.Refused.{Refused}
use Rattle.script.specs.declared.survey.Surveyed.{Surveyed}

-- the refusals of a script by itself: 11, then 12, 13 or 14 by what is wrong with its first bad record
abbrev pub survey_refusals : List ℕ → List (ℕ × Bool)
survey_refusals script =
    (script_too_long, ltb longest_script (length script))
    ∷ (unknown_mark, is_bad is_unknown_mark (decode script))
    ∷ (wrong_length, is_bad is_wrong_length (decode script))
    ∷ (cut_short, is_bad is_cut_short (decode script))
    ∷ []

-- of a script that can be run: number 0 and the counts
abbrev pub counted_survey : ℕ → ℕ → ℕ → Surveyed
counted_survey frames microseconds output = record { number = 0; frames = frames; microseconds = microseconds; offset = 0; output = output }

-- of a refused script: "counts 0"
abbrev pub refused_survey : ℕ → ℕ → Surveyed
refused_survey number offset = record { number = number; frames = 0; microseconds = 0; offset = offset; output = 0 }

-- a refusal that is of no record
abbrev pub no_offset : Refusal → Refused
no_offset refusal = record { refusal = refusal; offset = 0 }

-- what the records count, or the first bad record's refusal and its mark's offset
abbrev pub counted : Decoded → Result Counts Refused
counted (records rs) = Ok (record { frames = frames_in rs; microseconds = microseconds_in rs; output = output_length rs })
counted (bad_at fault offset) = Err (record { refusal = refusal_of fault; offset = offset })

-- 11 is checked before any record
unfoldable pub counts_of : List ℕ → Result Counts Refused
counts_of script = cond (ltb longest_script (length script)) (Err (no_offset ScriptTooLong)) (counted (decode script))

-- the counts or the refusal, as one struct
abbrev pub in_struct : Result Counts Refused → Surveyed
in_struct (Ok counts) = counted_survey counts.frames counts.microseconds counts.output
in_struct (Err refused) = refused_survey (number_of refused.refusal) refused.offset

-- what the records count, or "what is wrong with a script, and where": "the offset of the first bad record's mark"
abbrev pub surveyed : Decoded → Surveyed
surveyed (records rs) = counted_survey (frames_in rs) (microseconds_in rs) (output_length rs)
surveyed (bad_at fault offset) = refused_survey (fault_number fault) offset

-- 11 is checked before any record
unfoldable pub survey_of : List ℕ → Surveyed
survey_of script = cond (ltb longest_script (length script)) (refused_survey script_too_long 0) (surveyed (decode script))

-- The laws of the frames' lines: record by record, cut out of all that is shown, how long they are, and where the walk that writes them stands.
-- Assumes nothing.
use mathlib.Core.Path.{◌≡◌, refl, sym, ap, ◌∙◌}
use mathlib.Core.List.{List, [], ◌∷◌, ◌++◌}
use Prim.Native.Nat.{ℕ, ◌+◌, ◌-◌, ◌*◌, ◌≤◌}
use native.Mathlib.Omega.{arith}
use lib.ListN.{length, take, drop, length-append, length-take, length-drop}
use lib.Seq.{take_at, drop_at, drop-drop}
use Rattle.script.specs.Record.{Record, frame, wait, script_length, output_length}
use Rattle.common.specs.Limits.{longest_script}
use Rattle.script.specs.Decode.{records, decode, records_in, records_of}
use Rattle.script.specs.Survey.{survey_of}
use Rattle.script.specs.declared.survey.Surveyed.{Surveyed}
use Rattle.script.proofs.Laws.Records.{output_frame, output_wait, script_length_first}
use Rattle.script.proofs.Laws.Decode.{decoded_length}
use Rattle.script.proofs.Laws.Answers.{Stands, First, stands_first, FrameTold, EndTold}
use Rattle.script.proofs.Laws.Survey.{survey_whole}
use Rattle.frame.specs.Device.{Device}
use Rattle.frame.specs.Line.{Line, Long, front, behind}
use Rattle.run.specs.Run.{step, shown_by, shown_by_all}
use Rattle.run.proofs.Laws.Run.{shown_frame, shown_wait, shown_by_long}
use Rattle.common.specs.Buffer.{Put}
use Rattle.common.proofs.Laws.Buffer.{Left, left_start, left_room, left_turn, left_none}
use Rattle.text.specs.Text.{shown_hex}
use Rattle.listing.specs.Listing.{high, frame_line, frame_lines, cut_lines}
use Rattle.text.proofs.Laws.Text.{length_line}
use Rattle.text.proofs.Laws.Shown.{shown_short}

-- each frame's own line lies behind those of the frames before it
pub lines_cut : (rs : List Record) (d : Device) → frame_lines rs d ≡ cut_lines rs (shown_by_all high rs d)
unfolding frame_lines cut_lines
lines_cut [] d = refl
lines_cut (frame f ∷ rs) d =
    let own : Line = shown_by high (frame f) d in
    let others : Line = shown_by_all high rs (step high (frame f) d) in
    let long : Long (length f) own = shown_by_long high f d in
    rw (
      shown_frame high f rs d,
      take_at own.output others.output (length f) long.output_long,
      take_at own.driven others.driven (length f) long.driven_long,
      drop_at own.output others.output (length f) long.output_long,
      drop_at own.driven others.driven (length f) long.driven_long,
      lines_cut rs (step high (frame f) d),
    ) refl
lines_cut (wait n ∷ rs) d = rw (shown_wait high n rs d) (lines_cut rs (step high (wait n) d))

-- the lines, record by record
pub lines_none : (d : Device) → frame_lines [] d ≡ []
unfolding frame_lines
lines_none d = refl

pub lines_frame : (f : List ℕ) (rs : List Record) (d : Device)
    → frame_lines (frame f ∷ rs) d ≡ frame_line (shown_by high (frame f) d) ++ frame_lines rs (step high (frame f) d)
unfolding frame_lines
lines_frame f rs d = refl

pub lines_wait : (n : ℕ) (rs : List Record) (d : Device) → frame_lines (wait n ∷ rs) d ≡ frame_lines rs (step high (wait n) d)
unfolding frame_lines
lines_wait n rs d = refl

-- a frame of n bytes has 2 n + 3 characters, and 4 + n bytes of the script
pub cut_length : (rs : List Record) (line : Line) → length (cut_lines rs line) ≤ 2 * script_length rs
unfolding cut_lines
cut_length [] line = omega arith
cut_length (frame f ∷ rs) line =
    let own : Line = front (length f) line in
    omega (
      arith,
      length-append (frame_line own) (cut_lines rs (behind (length f) line)),
      length_line 0x46 (shown_hex own.output own.driven),
      shown_short own.output own.driven,
      length-take (length f) line.output,
      cut_length rs (behind (length f) line),
      script_length_first (frame f) rs,
    )
cut_length (wait n ∷ rs) line = omega (arith, cut_length rs line, script_length_first (wait n) rs)

-- ---- the walk over a script whose records are good

-- the lines of the records before an offset are written; with those that are left the text will be as it is to be
pub record Shown (script : List ℕ) (line : Line) (text₀ : List ℕ) (at shown next : ℕ) (text : List ℕ) : Type 0 where
  pub short : length script ≤ longest_script
  pub inside : at ≤ length script
  -- what is left to show
  pub left : List Record
  pub decoded : decode (drop at script) ≡ records left
  pub fills : Long (shown + output_length left) line
  pub lays : Left next (cut_lines left (behind shown line)) text 0 (cut_lines (records_of script) line) text₀

pub show_start : (script : List ℕ) (line : Line) (text : List ℕ) → (survey_of script).number ≡ 0 → Long (survey_of script).output line
    → 2 * longest_script ≤ length text → Shown script line text 0 0 0 text
show_start script line text e same room =
    let w = survey_whole script e in
    let is : records_of script ≡ w.list = ap records_in w.decoded in
    let count : 0 + output_length w.list ≡ (survey_of script).output = omega (arith, ap (λ (s : Surveyed). s.output) w.counts) in
    let lines : length (cut_lines w.list line) ≤ 2 * length script =
    omega (arith, cut_length w.list line, decoded_length script w.list w.decoded) in
    record {
      short = w.short;
      inside = omega arith;
      left = w.list;
      decoded = w.decoded;
      fills = rw count same;
      lays = rw is (left_start 0 (cut_lines w.list line) text (omega (arith, lines, w.short, room)));
    }

-- the part of a line in which a frame's bytes lie
abbrev Part : ℕ → ℕ → Line → Line
Part shown n line = front (shown + n - shown) (behind shown line)

module _ {script text₀ text : List ℕ} {line : Line} {at shown next : ℕ} (w : Shown script line text₀ at shown next text) where
  -- the record that stands at the offset is the first of those that are left
  first : {r : Record} {further : ℕ} → Stands script at r further → First script further r w.left
  first t = stands_first t w.decoded

  module _ {start n further : ℕ} (t : FrameTold script at start n further) where
    abbrev others : List Record
    others = (first t.stands).others

    frame_left : Left next (frame_line (Part shown n line) ++ cut_lines others (behind (shown + n) line)) text 0
        (cut_lines (records_of script) line) text₀
    unfolding cut_lines
    frame_left =
        let count : shown + n - shown ≡ n = omega arith in
        rw count (rw ((first t.stands).is, t.long, drop-drop n shown line.output, drop-drop n shown line.driven) at w.lays)

    frame_fills : Long (shown + n + output_length others) line
    frame_fills =
        let count : shown + n + output_length others ≡ shown + output_length w.left =
        omega (arith, t.long, ap output_length (first t.stands).is, output_frame (take n (drop start script)) others) in
        rw count w.fills

    pub frame_inside : shown + n ≤ length line.output
    frame_inside = omega (arith, frame_fills.output_long)

    pub frame_driven_inside : shown + n ≤ length line.driven
    frame_driven_inside = omega (arith, frame_fills.driven_long)

    -- its parts of the two slices have one length, and there is room for its line
    frame_same : length (Part shown n line).driven ≡ length (Part shown n line).output
    frame_same =
        let long = frame_fills in
        let same : length line.driven ≡ length line.output = long.driven_long ∙ sym long.output_long in
        omega (
          arith,
          same,
          length-take (shown + n - shown) (drop shown line.driven),
          length-take (shown + n - shown) (drop shown line.output),
          length-drop shown line.driven,
          length-drop shown line.output,
        )

    pub frame_room : (length (Part shown n line).driven ≡ length (Part shown n line).output)
        × (next + length (frame_line (Part shown n line)) ≤ length text)
    frame_room = (frame_same, left_room (frame_line (Part shown n line)) (cut_lines others (behind (shown + n) line)) frame_left)

    pub show_frame : {after : List ℕ} {following : ℕ} → Put next (frame_line (Part shown n line)) text after following
        → Shown script line text₀ further (shown + n) following after
    show_frame p = record {
      short = w.short;
      inside = t.stands.inside;
      left = others;
      decoded = (first t.stands).decoded;
      fills = frame_fills;
      lays = left_turn (frame_line (Part shown n line)) (cut_lines others (behind (shown + n) line)) frame_left p;
    }

  pub show_wait : {n further : ℕ} → Stands script at (wait n) further → Shown script line text₀ further shown next text
  unfolding cut_lines
  show_wait {n} t =
      let count : shown + output_length (first t).others ≡ shown + output_length w.left =
      omega (arith, ap output_length (first t).is, output_wait n (first t).others) in
      record {
        short = w.short;
        inside = t.inside;
        left = (first t).others;
        decoded = (first t).decoded;
        fills = rw count w.fills;
        lays = rw (first t).is at w.lays;
      }

  pub show_end : EndTold script at → Put 0 (cut_lines (records_of script) line) text₀ text next
  unfolding cut_lines
  show_end t = let none : w.left ≡ [] = cc (t.decoded, w.decoded) in left_none (rw none at w.lays)

-- `sectors::image::append` meets its contract: front and record are laid into an erased sector, and over the record the same with its mark.
use mathlib.Core.Path.{◌≡◌, refl, sym, ap, ◌∙◌}
use mathlib.Core.Bool.{true, false}
use mathlib.Core.List.{List, [], ◌∷◌, ◌++◌, append-nil}
use Prim.Native.Nat.{ℕ, ◌+◌, ◌-◌, ◌≤◌}
use native.Mathlib.Omega.{arith}
use lib.ListN.{length, take, drop, length-drop}
use lib.Seq.{length-take-le}
use borrow.Author.Rules.{rules}
use borrow.Rule.Slice.PartMut.{mid_of}
use Rattle.std.proofs.Common.{take_all}
use Rattle.common.specs.Buffer.{Put}
use Rattle.names.specs.Records.{record_bytes, records_bytes, padded}
use Rattle.names.proofs.Laws.Padded.{padded_long}
use Rattle.names.proofs.Laws.Walk.{records_one}
use Rattle.sectors.specs.Images.{is_missing}
use Rattle.sectors.proofs.Laws.Images.{laid_over, laid_missing, wanted_first, wanted_second}
use Rattle.sectors.proofs.image.append.Goals as goal

-- behind a front, the record of a name: in an erased sector without its mark, and over that with it
module _ (image front name : List ℕ) (end : ℕ) (long : length front ≡ end) (fits : end + (3 + length name) ≤ 4096) where
  one_fits : length front + length (records_bytes false (name ∷ [])) ≤ 4096
  one_fits = omega (arith, long, ap length (records_one false name), fits)

  first_laid : (erased put first : List ℕ) (at behind : ℕ) → erased ≡ padded [] → Put 0 front erased put at → Put end (record_bytes false name) put first behind
      → first ≡ padded (front ++ records_bytes false (name ∷ []))
  first_laid erased put first at behind e p q =
      let there = laid_over [] [] front _ _ _ _ refl e (omega arith) (omega (arith, long, fits)) p in
      laid_over front [] (record_bytes false name) _ _ _ _ (sym long) (there ∙ ap padded (sym (append-nil front))) (omega arith) (omega (arith, long, fits)) q
      ∙ ap (λ (l : List ℕ). padded (front ++ l)) (sym (records_one false name))

  first_missing : (first : List ℕ) (behind : ℕ) → first ≡ padded (front ++ records_bytes false (name ∷ [])) → behind ≡ end + length (record_bytes false name)
      → is_missing (take (behind - end) (drop end first)) (drop end image) ≡ is_missing (records_bytes false (name ∷ [])) (drop (length front) image)
  first_missing first behind is b =
      laid_missing front (records_bytes false (name ∷ [])) _ image _ _ (sym long) (b ∙ ap (λ (l : List ℕ). end + length l) (sym (records_one false name))) is one_fits

  second_laid : (first second : List ℕ) (behind : ℕ) → first ≡ padded (front ++ records_bytes false (name ∷ [])) → Put end (record_bytes true name) first second behind
      → second ≡ padded (front ++ records_bytes true (name ∷ []))
  second_laid first second behind is p =
      let one = ap length (records_one false name) in
      laid_over front (records_bytes false (name ∷ [])) (record_bytes true name) _ _ _ _ (sym long) is (omega (arith, one)) (omega (arith, long, fits)) p
      ∙ ap (λ (l : List ℕ). padded (front ++ l)) (sym (records_one true name))

pub slice_bounds-put-end : goal.slice_bounds-put-end
slice_bounds-put-end c = let a = c.args in sym (length-take-le a.end a.image.now (omega arith))

pub put-requires : goal.put-requires
put-requires c =
    let a = c.args in
    omega (arith, length-take-le a.end a.image.now (omega arith), ap length c.requires.0, padded_long [] (omega arith))

pub returns-then-not-is_missing : goal.returns-then-not-is_missing
returns-then-not-is_missing c =
    let a = c.args in
    let front = take a.end a.image.now in
    let long : length front ≡ a.end = length-take-le a.end a.image.now (omega arith) in
    let fits = c.requires.3 in
    let first = first_laid a.image.now front a.name.now a.end long fits _ _ _ _ _ c.requires.0 c.put.ensures c.put_record-behind.ensures in
    let part : mid_of a.end (c.put_record-behind.result - a.end) c.put_record-behind.new.buffer
    ≡ take (c.put_record-behind.result - a.end) (drop a.end c.put_record-behind.new.buffer) = search rules in
    let rest : take (length a.image.now - a.end) (drop a.end a.image.now) ≡ drop a.end a.image.now =
    take_all _ _ (omega (arith, length-drop a.end a.image.now)) in
    let told = rw (part, rest) at c.is_missing.ensures ∙ first_missing a.image.now front a.name.now a.end long fits _ _ first c.put_record-behind.ensures.behind in
    second_laid a.image.now front a.name.now a.end long fits _ _ _ first c.put_record.ensures
    ∙ sym (wanted_second _ _ _ (sym told ∙ c.if-not-is_missing.true))

pub returns-else-not-is_missing : goal.returns-else-not-is_missing
returns-else-not-is_missing c =
    let a = c.args in
    let front = take a.end a.image.now in
    let long : length front ≡ a.end = length-take-le a.end a.image.now (omega arith) in
    let fits = c.requires.3 in
    let first = first_laid a.image.now front a.name.now a.end long fits _ _ _ _ _ c.requires.0 c.put.ensures c.put_record-behind.ensures in
    let part : mid_of a.end (c.put_record-behind.result - a.end) c.put_record-behind.new.buffer
    ≡ take (c.put_record-behind.result - a.end) (drop a.end c.put_record-behind.new.buffer) = search rules in
    let rest : take (length a.image.now - a.end) (drop a.end a.image.now) ≡ drop a.end a.image.now =
    take_all _ _ (omega (arith, length-drop a.end a.image.now)) in
    let told = rw (part, rest) at c.is_missing.ensures ∙ first_missing a.image.now front a.name.now a.end long fits _ _ first c.put_record-behind.ensures.behind in
    first ∙ sym (wanted_first _ _ _ (sym told ∙ c.if-not-is_missing.false))

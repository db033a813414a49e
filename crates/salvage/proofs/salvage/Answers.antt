-- `salvage::salvage` meets its contract: a refusal, found before anything is written, or both buffers as they are to be.
use mathlib.Core.Path.{◌≡◌, ap, ◌∙◌}
use mathlib.Core.List.{List}
use Prim.Native.Nat.{ℕ, ◌≤◌}
use native.Mathlib.Omega.{arith}
use lib.ListN.{length}
use Rattle.salvage.specs.Pieces.{used_part}
use Rattle.salvage.specs.Walk.{PiecesPut}
use Rattle.salvage.proofs.Laws.Answers.{
  kept_most,
  room_enough_lem,
  used_most,
  list_is,
  refused_2,
  refused_10,
  accepted,
  sector_sized,
  kept_sized,
  salvages_refused,
  size_is,
  salvages_all,
}
use Rattle.salvage.proofs.salvage.Goals as goal

-- what is laid fits a sector
laid_fits : (sector : List ℕ) {used kept laid dropped after : List ℕ} {size : ℕ} → used ≡ used_part sector → PiecesPut used kept laid dropped after size
    → length sector ≡ 4096 → size ≤ 4096
laid_fits sector {used} used_are put long = omega (arith, size_is sector _ _ used used_are put, kept_most sector)

pub returns-then-sector-kept : goal.returns-then-sector-kept
returns-then-sector-kept c =
    let a = c.args in
    rw c.refuse.ensures
    (salvages_refused a.sector.now a.kept.now a.dropped.now 2 (omega arith) (refused_2 a.sector.now a.kept.now a.dropped.now c.if-sector-kept.true))

pub list_length-length-requires : goal.list_length-length-requires
list_length-length-requires c = used_most _ _ c.used_part-used.ensures (sector_sized _ _ c.args.dropped.now c.if-sector-kept.false)

pub returns-then-dropped-length : goal.returns-then-dropped-length
returns-then-dropped-length c =
    let a = c.args in
    rw c.refuse-then-dropped-length.ensures
    (salvages_refused a.sector.now a.kept.now a.dropped.now 10 (omega arith)
    (refused_10 a.sector.now a.kept.now a.dropped.now c.if-sector-kept.false
    (rw (c.list_length-length.ensures ∙ ap length (list_is _ _ c.used_part-used.ensures)) at c.if-dropped-length.true)))

pub put_pieces-size-requires : goal.put_pieces-size-requires
put_pieces-size-requires c =
    let a = c.args in
    let used = used_most _ _ c.used_part-used.ensures (sector_sized _ _ a.dropped.now c.if-sector-kept.false) in record {
      bytes_len_bound = (used, omega (arith, used, kept_sized a.sector.now a.kept.now a.dropped.now c.if-sector-kept.false));
      bytes_in_bounds = omega (arith, c.if-dropped-length.false, c.list_length-length.ensures);
    }

pub fill_run-requires : goal.fill_run-requires
fill_run-requires c =
    let kept_is = kept_sized c.args.sector.now c.args.kept.now c.args.dropped.now c.if-sector-kept.false in
    (laid_fits _ c.used_part-used.ensures c.put_pieces-size.ensures (sector_sized _ _ c.args.dropped.now c.if-sector-kept.false), omega (arith, kept_is))

pub overflow_cast-result : goal.overflow_cast-result
overflow_cast-result c =
    let sector_is = sector_sized c.args.sector.now c.args.kept.now c.args.dropped.now c.if-sector-kept.false in
    omega (arith, c.list_length-length.ensures ∙ ap length (list_is _ _ c.used_part-used.ensures), room_enough_lem c.args.sector.now (omega (arith, sector_is)))

pub overflow_cast-result-2 : goal.overflow_cast-result-2
overflow_cast-result-2 c =
    omega (arith, laid_fits _ c.used_part-used.ensures c.put_pieces-size.ensures (sector_sized _ _ c.args.dropped.now c.if-sector-kept.false))

pub returns : goal.returns
returns c =
    let a = c.args in
    let measured = c.list_length-length.ensures ∙ ap length (list_is _ _ c.used_part-used.ensures) in
    salvages_all a.sector.now a.kept.now a.dropped.now _ c.used_part-used.ensures _
    (accepted a.sector.now a.kept.now a.dropped.now c.if-sector-kept.false (omega (arith, c.if-dropped-length.false, measured)))
    (sector_sized _ _ a.dropped.now c.if-sector-kept.false) (kept_sized _ _ a.dropped.now c.if-sector-kept.false)
    c.list_length-length.ensures c.put_pieces-size.ensures c.fill_run.ensures

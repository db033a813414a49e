-- `frame::accepted::run_accepted_cut` meets its contract: the command's columns with the array cut, and power-up.
use mathlib.Core.Path.{refl, sym, ◌∙◌}
use native.Mathlib.Omega.{arith}
use Rattle.state.specs.State.{data_of}
use Rattle.chip.proofs.Laws.Chip.{regular}
use Rattle.command.specs.Command.{command_of}
use Rattle.command.specs.Fits.{Fits}
use Rattle.command.proofs.Laws.Fits.{fits, next_low}
use Rattle.effect.specs.Effect.{span_of}
use Rattle.effect.proofs.Laws.Effect.{Inside}
use Rattle.frame.specs.Ran.{torn_device, shown_line}
use Rattle.frame.proofs.Laws.Inside.{effect_inside}
use Rattle.frame.proofs.accepted.run_accepted_cut.Goals as goal

pub command_of-c-requires : goal.command_of-c-requires
command_of-c-requires c = let a = c.requires.whole in (next_low _ a.sound, a.short)

pub emit-requires : goal.emit-requires
emit-requires c =
    let fit : Fits c.args.s (command_of c.args.s c.args.wp c.args.input.now) = fits c.args.s c.args.wp c.args.input.now c.requires.whole.sound in
    let a = c.requires.whole in (
      rw c.command_of-c.ensures fit,
      a.sized,
      omega (arith, a.short, a.same.output_long),
      a.same.driven_long ∙ sym a.same.output_long,
    )

pub cut_change-requires : goal.cut_change-requires
cut_change-requires c =
    let fit : Fits c.args.s (command_of c.args.s c.args.wp c.args.input.now) = fits c.args.s c.args.wp c.args.input.now c.requires.whole.sound in
    let a = c.args in
    let i : Inside (span_of c.effect_of.result) (data_of a.s).size =
    rw (c.effect_of.ensures, c.command_of-c.ensures) (effect_inside a.s (command_of a.s a.wp a.input.now) fit) in
    (omega (arith, i.within, c.requires.whole.sized), omega (arith, c.requires.whole.sized, (regular a.s.chip).size_le_mebibyte))

pub state_cut-requires : goal.state_cut-requires
state_cut-requires c =
    let fit : Fits c.args.s (command_of c.args.s c.args.wp c.args.input.now) = fits c.args.s c.args.wp c.args.input.now c.requires.whole.sound in
    rw c.command_of-c.ensures (fit)

pub returns : goal.returns
unfolding torn_device shown_line
returns c =
    let shown = c.emit.ensures in
    let command = c.command_of-c.ensures in
    let same = c.requires.whole.same.output_long in
    rw (c.powered_up.ensures, c.state_cut.ensures, c.cut_change.ensures, c.effect_of.ensures, shown.output_after, shown.driven_after, command, same)
    record { device_is = refl; line_is = refl }

-- `frame::accepted::run_accepted` meets its contract: the three columns of the command.
use mathlib.Core.Path.{refl, sym, ◌∙◌}
use native.Mathlib.Omega.{arith}
use Rattle.state.specs.State.{data_of}
use Rattle.chip.proofs.Laws.Chip.{regular}
use Rattle.command.specs.Command.{command_of}
use Rattle.command.specs.Fits.{Fits}
use Rattle.command.proofs.Laws.Fits.{fits, next_low}
use Rattle.command.proofs.Laws.Carries.{carries}
use Rattle.effect.specs.Effect.{span_of, Supplied}
use Rattle.effect.proofs.Laws.Effect.{Inside}
use Rattle.frame.specs.Ran.{ran_device, shown_line}
use Rattle.frame.proofs.Laws.Supplied.{effect_supplied}
use Rattle.frame.proofs.Laws.Inside.{effect_inside}
use Rattle.frame.proofs.accepted.run_accepted.Goals as goal

pub command_of-c-requires : goal.command_of-c-requires
command_of-c-requires c = let a = c.requires in (next_low _ a.sound, a.short)

pub emit-requires : goal.emit-requires
emit-requires c =
    let fit : Fits c.args.s (command_of c.args.s c.args.wp c.args.input.now) = fits c.args.s c.args.wp c.args.input.now c.requires.sound in
    let same = c.requires.same in (
      rw c.command_of-c.ensures fit,
      c.requires.sized,
      omega (arith, c.requires.short, same.output_long),
      same.driven_long ∙ sym same.output_long,
    )

pub change-requires : goal.change-requires
change-requires c =
    let fit : Fits c.args.s (command_of c.args.s c.args.wp c.args.input.now) = fits c.args.s c.args.wp c.args.input.now c.requires.sound in
    let a = c.args in
    let e = c.command_of-c.ensures in
    let i : Inside (span_of c.effect_of.result) (data_of a.s).size =
    rw (c.effect_of.ensures, e) (effect_inside a.s (command_of a.s a.wp a.input.now) fit) in
    let d : Supplied c.effect_of.result a.input.now =
    rw (c.effect_of.ensures, e)
    (effect_supplied a.input.now (command_of a.s a.wp a.input.now) (carries a.s a.wp a.input.now)) in
    (omega (arith, i.within, c.requires.sized), omega (arith, c.requires.sized, (regular a.s.chip).size_le_mebibyte), d)

pub state_after-requires : goal.state_after-requires
state_after-requires c =
    let fit : Fits c.args.s (command_of c.args.s c.args.wp c.args.input.now) = fits c.args.s c.args.wp c.args.input.now c.requires.sound in
    rw c.command_of-c.ensures (fit)

pub returns : goal.returns
unfolding ran_device shown_line
returns c =
    let shown = c.emit.ensures in
    let command = c.command_of-c.ensures in
    let same = c.requires.same.output_long in
    rw (c.state_after.ensures, c.change.ensures, c.effect_of.ensures, shown.output_after, shown.driven_after, command, same)
    record { device_is = refl; line_is = refl }

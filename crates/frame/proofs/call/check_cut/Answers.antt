-- `frame::call::check_cut` meets its contract: the frame's own refusal, then the mask's.
use mathlib.Core.Path.{◌≡◌, sym, ◌∙◌}
use native.Mathlib.Omega.{arith}
use Rattle.std.proofs.Common.{rules, Err}
use Rattle.common.proofs.Laws.Refusals.{number_some}
use Rattle.command.specs.Command.{command_of}
use Rattle.command.proofs.Laws.Fits.{next_low}
use Rattle.frame.specs.Device.{device}
use Rattle.frame.specs.Line.{on_line}
use Rattle.frame.specs.Cut.{takes_mask}
use Rattle.frame.specs.Call.{Accepted}
use Rattle.frame.proofs.Laws.Cut.{masked_of}
use Rattle.frame.proofs.Laws.Accepted.{number_accepted, cut_accepted_number, cut_number_refused, cut_number_unmasked}
use Rattle.frame.proofs.call.check_cut.Goals as goal

pub returns-in_err-check_frame : goal.returns-in_err-check_frame
returns-in_err-check_frame c =
    let refusal = c.in_err-check_frame.field-0.0 in
    let handed_on : c.from_residual.result ≡ Err refusal = search rules in
    let e = c.in_err-check_frame.ensures in
    let some = number_some refusal in
    rw (handed_on, e) (sym (cut_number_refused _ _ _ _ c.args.mask.now (λ z. omega (arith, z, e))))

pub command_of-c-requires : goal.command_of-c-requires
command_of-c-requires c =
    let whole : let a = c.args in Accepted a.wp a.input.now (device a.s a.array.now) (on_line a.output.now a.driven.now) = number_accepted _ _ _ _ (sym c.in_ok-check_frame.ensures) in
    (next_low _ whole.sound, whole.short)

pub returns-then-not-takes_mask : goal.returns-then-not-takes_mask
returns-then-not-takes_mask c =
    let right : let a = c.args in c.takes_mask.result ≡ takes_mask (command_of a.s a.wp a.input.now) a.mask.now = rw c.command_of-c.ensures at c.takes_mask.ensures in
    sym (cut_number_unmasked _ _ _ _ _ (number_accepted _ _ _ _ (sym c.in_ok-check_frame.ensures)) (sym right ∙ c.if-not-takes_mask.true))

pub returns : goal.returns
returns c =
    let right : let a = c.args in c.takes_mask.result ≡ takes_mask (command_of a.s a.wp a.input.now) a.mask.now = rw c.command_of-c.ensures at c.takes_mask.ensures in
    sym (cut_accepted_number _ _ _ _ _ record {
      whole = number_accepted _ _ _ _ (sym c.in_ok-check_frame.ensures);
      masked = masked_of _ _ (sym right ∙ c.if-not-takes_mask.false);
    })

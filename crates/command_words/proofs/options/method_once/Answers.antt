use Rattle.std.proofs.Common.{◌∙◌, sym, arith}
use Rattle.command_words.specs.Options as spec
use Rattle.command_words.specs.declared.options.Setting.TheVariants.{Width}
use Rattle.command_words.proofs.Once.{once-more, once-twice}
use Rattle.command_words.proofs.options.method_once.Goals as goal

pub loop-setting-preserved : goal.loop-setting-preserved
loop-setting-preserved c =
    once-more spec.method_of c.args.settings.now c.loop-setting.setting-index (Width 0) c.loop-setting.found c.method.result
    (omega arith) c.method.ensures c.loop-setting.invariant c.in_ok-found.found c.in_ok-found.ensures

pub returns-in_err-found : goal.returns-in_err-found
returns-in_err-found c =
    c.from_residual.ensures
    ∙ sym (once-twice spec.method_of c.args.settings.now c.loop-setting.setting-index (Width 0) c.loop-setting.found c.method.result
    (omega arith) c.method.ensures c.loop-setting.invariant c.in_err-found.ensures)

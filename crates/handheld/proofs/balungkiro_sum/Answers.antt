-- `balungkiro_sum` meets its contract: it lays out what the service answers.
use Rattle.field.specs.Contract.{element}
use Rattle.field.specs.Arithmetic.{refused_answer, given_answer, AskSum}
use Rattle.field.specs.Faults.Laws.{stands_told}
use Rattle.handheld.specs.Layout.{laid}
use Rattle.handheld.proofs.balungkiro_sum.Goals as goal

pub returns : goal.returns
returns c =
    let a = element c.args.modulus c.args.value in let b = element c.args.other_modulus c.args.other_value in
    rw c.lay_answer.ensures (laid _ (stands_told (refused_answer a) given_answer (AskSum a b) c.ask_sum.result c.ask_sum.ensures))

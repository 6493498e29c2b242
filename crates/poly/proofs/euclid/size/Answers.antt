-- `poly::euclid::size` meets its contract: the loop keeps the model's answer (`Sizing`).
use Rattle.std.proofs.Common.{◌≡◌, ◌+◌, ◌-◌, sym, ◌∙◌, arith}
use Rattle.poly.specs.Euclid.Numbers.{size_down, size_found, size_none}
use Rattle.poly.proofs.euclid.size.Goals as goal

pub returns-then-f-i-ne0 : goal.returns-then-f-i-ne0
returns-then-f-i-ne0 c =
    let e : c.loop-i.i - 1 + 1 ≡ c.loop-i.i = omega arith in
    e ∙ sym (c.loop-i.invariant.same ∙ size_found c.args.f.now (omega arith) c.if-f-i-ne0.true)

pub loop-i-preserved : goal.loop-i-preserved
loop-i-preserved c =
    record { within = omega arith; same = c.loop-i.invariant.same ∙ size_down c.args.f.now (omega arith) c.if-f-i-ne0.false }

pub returns : goal.returns
returns c = sym (c.loop-i.invariant.same ∙ size_none c.args.f.now (omega arith))

-- `poly::euclid::make_monic` meets its contract: the inverse is the model's.
use Rattle.std.proofs.Common.{ap₂, ◌∙◌, subst, ℕ, get_or}
use Rattle.field.specs.declared.elements.Element.{Element}
use Rattle.field.specs.Contract.{element, Inverse}
use Rattle.field.specs.Modulus.Laws.{listed_prime}
use Rattle.field.specs.Elements.Link.{inverse_val}
use Rattle.poly.specs.Euclid.Model.{scaled, monic}
use Rattle.poly.proofs.euclid.make_monic.Goals as goal

pub returns : goal.returns
unfolding monic
returns c =
    let inverts : Inverse (element c.args.p (get_or c.args.f.now c.args.n 0)) c.inverse-v.result =
    subst (λ (a : Element). Inverse a c.inverse-v.result) c.of-lead.ensures c.inverse-v.ensures in
    c.scale.ensures
    ∙ ap₂ (λ (m x : ℕ). scaled m x c.args.f.now) inverts.same
    (inverse_val _ c.inverse-v.result (listed_prime c.requires.is_listed) inverts)

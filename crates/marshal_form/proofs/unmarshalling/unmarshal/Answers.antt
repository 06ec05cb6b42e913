use Rattle.std.proofs.Common.{◌≡◌, ◌<◌, ◌-◌, length, drop, sym, ◌∙◌, arith, inl}
use Rattle.std.specs.declared.cmp.Ordering.TheVariants.{Less, Equal}
use Rattle.std.proofs.lemmas.Cmp.{ranked}
use Rattle.marshal_form.specs.Fields.{IsForm}
use Rattle.marshal_form.proofs.Places.{contents_cut, form_of}
use Rattle.marshal_form.proofs.Spelled.{form_spelled}
use Rattle.marshal_form.proofs.unmarshalling.unmarshal.Goals as goal
use Rattle.marshal_form.proofs.unmarshalling.unmarshal.Goals.{In-Equal}

pub returns-in-Less-clause-refused : goal.returns-in-Less-clause-refused
returns-in-Less-clause-refused c =
    let less : length c.args.form.now - 44 < c.in_ok-meta.length = ranked _ _ Less c.in-Less.ensures in
    inl (contents_cut c.args.form.now c.in_ok-meta.ensures.right (omega (arith, c.in_ok-meta.ensures.length)))

-- where the contents are as many bytes as the head says
whole : (c : In-Equal) → IsForm c.args.form.now c.in_ok-meta.meta (drop 44 c.args.form.now)
whole c =
    let same : length c.args.form.now - 44 ≡ c.in_ok-meta.length = ranked _ _ Equal c.in-Equal.ensures in
    form_of c.args.form.now c.in_ok-meta.meta c.in_ok-meta.ensures.right c.in_ok-meta.ensures.attributes (same ∙ sym c.in_ok-meta.ensures.length)

pub returns-in-Equal-clause-form : goal.returns-in-Equal-clause-form
returns-in-Equal-clause-form c = whole (goal.at.returns-in-Equal-clause-form c).In-Equal

pub returns-in-Equal-clause-spelled : goal.returns-in-Equal-clause-spelled
returns-in-Equal-clause-spelled c = form_spelled c.args.form.now c.in_ok-meta.meta _ (λ i. omega (arith, c.type_inv.form i)) (whole (goal.at.returns-in-Equal-clause-spelled c).In-Equal)

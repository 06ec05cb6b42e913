use Rattle.std.proofs.Common.{◌≡◌, ◌∙◌, List, ℕ, ◌++◌, sym, ap, codes, inl, inr}
use Rattle.std.specs.Prelude.{decimal}
use Rattle.marshal_form.proofs.Places.{bad_places_are_one, forms_have_no_bad_place}
use Rattle.wire_rows.specs.Answering.{IsFormAnswer, OneAnswer, file_text}
use Rattle.wire_rows.specs.declared.row.WireRow.TheVariants as rows
use Rattle.wire_rows.proofs.laws.one_answer.Goals as goal

one_form : (form a b : List ℕ) → IsFormAnswer form a → IsFormAnswer form b → a ≡ b
one_form form a b (inl (meta, contents, is, says)) (inl (other, others, also, says')) =
    says ∙ ap (λ n. file_text (record { attributes = n }) form) (sym is.attributes ∙ also.attributes) ∙ sym says'
one_form form a b (inl (meta, contents, is, says)) (inr (at, bad, says')) = absurd (forms_have_no_bad_place form meta contents at is bad)
one_form form a b (inr (at, bad, says)) (inl (meta, contents, is, says')) = absurd (forms_have_no_bad_place form meta contents at is bad)
one_form form a b (inr (at, bad, says)) (inr (other, also, says')) = says ∙ ap (λ n. codes "bad " ++ decimal n) (bad_places_are_one form at other bad also) ∙ sym says'

one : OneAnswer
one (rows.Pdu bytes) a b is also = is ∙ sym also
one (rows.Request opnum stub) a b is also = is ∙ sym also
one (rows.Reply opnum stub) a b is also = is ∙ sym also
one (rows.Feed pieces) a b is also = is ∙ sym also
one (rows.Form form) a b is also = one_form form a b is also

pub returns : goal.returns
returns c = one

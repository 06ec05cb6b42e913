-- Bytes are a form or have a first bad place.
use Rattle.std.proofs.Common.{◌≡◌, ◌⊎◌, ◌≤◌, ◌+◌, ℕ, Bool, true, false, List, [], ◌∷◌, ◌++◌, refl, sym, ap, ◌∙◌, arith, inl, inr, length, drop}
use Rattle.std.specs.Prelude.{slice_range}
use Rattle.std.specs.List.{AllByRecursion}
use Rattle.std.proofs.lemmas.Bool.{cases_lt}
use Rattle.std.proofs.lemmas.List.{length-drop}
use Rattle.marshal_form.specs.declared.meta.Meta.{Meta}
use Rattle.marshal_form.specs.Fields.{Field, IsFirstBad, IsForm, IsRight, attributes_in, fields, length_in}

-- a field is right or isn't
right_or_not : (form : List ℕ) (field : Field) → IsRight form field ⊎ ¬ IsRight form field
right_or_not form field =
    elim (cases_lt (length form) (field.at + field.size)) [
      | inl less ↦ inr (λ is. omega (arith, is.0))
      | inr within ↦ accepted (field.accepts (slice_range form field.at (field.at + field.size))) refl within
    ]
  where
    accepted : (answer : Bool) → field.accepts (slice_range form field.at (field.at + field.size)) ≡ answer → field.at + field.size ≤ length form → IsRight form field ⊎ ¬ IsRight form field
    accepted true e within = inl (within, e)
    accepted false e within = inr (λ is. let both : false ≡ true = sym e ∙ is.1 in cc)

-- all of some fields are right, or one is the first that isn't
abbrev FirstOf : List ℕ → List Field → Type 0
FirstOf form some = (before : List Field) × (field : Field) × (after : List Field) × (some ≡ before ++ field ∷ after) × AllByRecursion (IsRight form) before × ¬ IsRight form field

all_or_first : (form : List ℕ) (some : List Field) → AllByRecursion (IsRight form) some ⊎ FirstOf form some
all_or_first form [] = inl tt
all_or_first form (field ∷ others) =
    elim (right_or_not form field) [
      | inr wrong ↦ inr ([], field, others, refl, tt, wrong)
      | inl right ↦
          elim (all_or_first form others) [
            | inl rights ↦ inl (right, rights)
            | inr first ↦ inr (field ∷ first.0, first.1, first.2, ap (λ (fs : List Field). field ∷ fs) first.3, (right, first.4), first.5)
          ]
    ]

-- where all are right the contents are there in full
contents_there : (form : List ℕ) → AllByRecursion (IsRight form) (fields form) → 44 + length_in form ≤ length form
contents_there form (at_0, (at_4, (at_8, (at_12, (at_16, (at_24, (at_28, (at_32, (at_36, (at_44, rest)))))))))) = at_44.0

-- where all are right, nothing is left over or something is
form_or_left_over : (form : List ℕ) → AllByRecursion (IsRight form) (fields form) → ((meta : Meta) × (contents : List ℕ) × IsForm form meta contents) ⊎ ((at : ℕ) × IsFirstBad form at)
form_or_left_over form right =
    elim (cases_lt (44 + length_in form) (length form)) [
      | inl more ↦ inr (44 + length_in form, inr (record { right = right; place = refl; more = more }))
      | inr less ↦
          let meta : Meta = record { attributes = attributes_in form } in
          inl (meta, drop 44 form, record { right = right; attributes = refl; behind = refl; whole = omega (arith, contents_there form right, length-drop 44 form) })
    ]

pub every_other_has_a_bad_place : (form : List ℕ) → ((meta : Meta) × (contents : List ℕ) × IsForm form meta contents) ⊎ ((at : ℕ) × IsFirstBad form at)
every_other_has_a_bad_place form =
    elim (all_or_first form (fields form)) [
      | inl right ↦ form_or_left_over form right
      | inr first ↦ inr (first.1.at, inl (record { before = first.0; field = first.1; after = first.2; table = first.3; right = first.4; wrong = first.5; place = refl }))
    ]

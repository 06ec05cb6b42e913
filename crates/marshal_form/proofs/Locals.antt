-- What is the form of a local file, or where bytes first aren't, is settled.
use Rattle.std.proofs.Common.{◌≡◌, ◌≢◌, ℕ, List, ap, sym, ◌∙◌, inl, inr}
use Rattle.marshal_form.specs.declared.meta.Meta.{Meta}
use Rattle.marshal_form.specs.Fields.{IsFirstBad, IsForm}
use Rattle.marshal_form.specs.Local.{IsFirstBadLocal, IsForeignForm, IsLocalForm}
use Rattle.marshal_form.specs.Laws.{LocalBadPlacesAreOne, LocalFormsHaveNoBadPlace}
use Rattle.marshal_form.proofs.Places.{bad_places_are_one, forms_have_no_bad_place}

-- the form of another file has no bad place
foreign_no_bad : (form : List ℕ) (at : ℕ) → IsForeignForm form → IsFirstBad form at → ⊥
foreign_no_bad form at (meta, contents, is, other) bad = forms_have_no_bad_place form meta contents at is bad

pub local_forms_have_no_bad_place : LocalFormsHaveNoBadPlace
local_forms_have_no_bad_place form contents at is (inl bad) = forms_have_no_bad_place form _ contents at is bad
local_forms_have_no_bad_place form contents at is (inr ((meta, others, also, other), place)) = other (sym also.attributes ∙ is.attributes)

pub local_bad_places_are_one : LocalBadPlacesAreOne
local_bad_places_are_one form at other (inl bad) (inl worse) = bad_places_are_one form at other bad worse
local_bad_places_are_one form at other (inl bad) (inr (foreign, place)) = absurd (foreign_no_bad form at foreign bad)
local_bad_places_are_one form at other (inr (foreign, place)) (inl bad) = absurd (foreign_no_bad form other foreign bad)
local_bad_places_are_one form at other (inr (foreign, place)) (inr (more, also)) = place ∙ sym also

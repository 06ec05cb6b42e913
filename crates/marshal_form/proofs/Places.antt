-- First bad places.
use Rattle.std.proofs.Common.{◌≡◌, ◌<◌, ◌≤◌, ◌+◌, ◌-◌, ℕ, List, [], ◌∷◌, ◌++◌, refl, sym, ap, subst, ◌∙◌, arith, inl, inr, get_or, length, take, drop, append_assoc, length-drop}
use Rattle.std.specs.List.{AllByRecursion}
use Rattle.std.proofs.lemmas.List.{drop_more, take-append-drop}
use Rattle.marshal_form.specs.declared.meta.Meta.{Meta}
use Rattle.marshal_form.specs.Fields.{Field, IsFirstBad, IsFirstWrong, IsForm, IsRight, free_field, attributes_in, fields, head_fields, length_in}

-- of what is right of each field, what is right of one of them
right_among : (form : List ℕ) (before : List Field) (field : Field) (after : List Field) → AllByRecursion (IsRight form) (before ++ field ∷ after) → IsRight form field
right_among form [] field after right = right.0
right_among form (first ∷ before) field after right = right_among form before field after right.1

-- where each field is right none is wrong
none_wrong : (form : List ℕ) (at : ℕ) → AllByRecursion (IsRight form) (fields form) → IsFirstWrong form at → ⊥
none_wrong form at right bad =
    bad.wrong (right_among form bad.before bad.field bad.after (subst (AllByRecursion (IsRight form)) bad.table right))

-- two fields with only right ones before them, neither right, are one
one_wrong : (form : List ℕ) (before : List Field) (field : Field) (after befores : List Field) (other : Field) (afters : List Field)
    → before ++ field ∷ after ≡ befores ++ other ∷ afters
    → AllByRecursion (IsRight form) before → ¬ IsRight form field
    → AllByRecursion (IsRight form) befores → ¬ IsRight form other
    → field ≡ other
one_wrong form [] field after [] other afters same right wrong rights wrongs = cc
one_wrong form [] field after (next ∷ befores) other afters same right wrong rights wrongs =
    let e : next ≡ field = cc in absurd (wrong (subst (IsRight form) e rights.0))
one_wrong form (first ∷ before) field after [] other afters same right wrong rights wrongs =
    let e : first ≡ other = cc in absurd (wrongs (subst (IsRight form) e right.0))
one_wrong form (first ∷ before) field after (next ∷ befores) other afters same right wrong rights wrongs =
    let e : before ++ field ∷ after ≡ befores ++ other ∷ afters = cc in
    one_wrong form before field after befores other afters e right.1 wrong rights.1 wrongs

pub bad_places_are_one : (form : List ℕ) (at other : ℕ) → IsFirstBad form at → IsFirstBad form other → at ≡ other
bad_places_are_one form at other (inl a) (inl b) =
    let e = one_wrong form a.before a.field a.after b.before b.field b.after (sym a.table ∙ b.table) a.right a.wrong b.right b.wrong in
    a.place ∙ ap (λ (f : Field). f.at) e ∙ sym b.place
bad_places_are_one form at other (inl a) (inr b) = absurd (none_wrong form at b.right a)
bad_places_are_one form at other (inr a) (inl b) = absurd (none_wrong form other a.right b)
bad_places_are_one form at other (inr a) (inr b) = a.place ∙ sym b.place

-- a form has no bad place
pub forms_have_no_bad_place : (form : List ℕ) (meta : Meta) (contents : List ℕ) (at : ℕ) → IsForm form meta contents → IsFirstBad form at → ⊥
forms_have_no_bad_place form meta contents at is (inl bad) = none_wrong form at is.right bad
forms_have_no_bad_place form meta contents at is (inr bad) =
    let behind : length (drop 44 form) ≡ length contents = ap length is.behind in
    omega (arith, length-drop 44 form, behind, is.whole, bad.place, bad.more)

-- the field of an index among those before the contents
abbrev pub head_field : ℕ → Field
head_field index = get_or head_fields index (free_field 0 0)

-- it isn't right, and those before it are
pub wrong_at : (form : List ℕ) (index at : ℕ) → index < 9 → AllByRecursion (IsRight form) (take index head_fields) → ¬ IsRight form (head_field index) → at ≡ (head_field index).at → IsFirstWrong form at
wrong_at form index at within right wrong place = record {
  before = take index head_fields;
  field = head_field index;
  after = drop (index + 1) head_fields ++ free_field 44 (length_in form) ∷ [];
  table =
      ap (λ (all : List Field). all ++ free_field 44 (length_in form) ∷ [])
      (sym (take-append-drop index head_fields) ∙ ap (λ (rest : List Field). take index head_fields ++ rest) (drop_more head_fields index (free_field 0 0) within))
      ∙ append_assoc (take index head_fields) (head_field index ∷ drop (index + 1) head_fields) (free_field 44 (length_in form) ∷ []);
  right = right;
  wrong = wrong;
  place = place;
}

-- the contents are cut off
pub contents_cut : (form : List ℕ) → AllByRecursion (IsRight form) head_fields → length form < 44 + length_in form → IsFirstWrong form 44
contents_cut form right less = record {
  before = head_fields;
  field = free_field 44 (length_in form);
  after = [];
  table = refl;
  right = right;
  wrong = λ is. omega (arith, is.0);
  place = refl;
}

-- where the fields before the contents are right, the head is there in full
head_there : (form : List ℕ) → AllByRecursion (IsRight form) head_fields → 44 ≤ length form
head_there form (at_0, (at_4, (at_8, (at_12, (at_16, (at_24, (at_28, (at_32, (at_36, rest))))))))) = at_36.0

-- where the contents are there too, all fields are right
all_right : (form : List ℕ) → AllByRecursion (IsRight form) head_fields → 44 + length_in form ≤ length form → AllByRecursion (IsRight form) (fields form)
all_right form (at_0, (at_4, (at_8, (at_12, (at_16, (at_24, (at_28, (at_32, (at_36, rest))))))))) within =
    (at_0, (at_4, (at_8, (at_12, (at_16, (at_24, (at_28, (at_32, (at_36, ((within, refl), tt))))))))))

-- and where the contents are as many bytes as the head says, the bytes are a form
pub form_of : (form : List ℕ) (meta : Meta) → AllByRecursion (IsRight form) head_fields → attributes_in form ≡ meta.attributes → length form - 44 ≡ length_in form → IsForm form meta (drop 44 form)
form_of form meta right attributes whole = record {
  right = all_right form right (omega (arith, head_there form right));
  attributes = attributes;
  behind = refl;
  whole = sym whole ∙ sym (length-drop 44 form);
}

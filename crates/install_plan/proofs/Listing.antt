-- The files on a new agenda.
use Rattle.std.proofs.Common.{◌≡◌, ◌∙◌, ◌++◌, ℕ, inl, inr, true, List, [], ◌∷◌, Option, Some, None, is_lt, refl, sym, ap, subst}
use Rattle.std.specs.Prelude.{◌⊎◌, is_some}
use Rattle.std.specs.List.Sorted.{IsPermutation, IsSortedBy}
use Rattle.std.proofs.lemmas.List.Sorted.{Contains-permutation}
use Rattle.frs_base.specs.Options.{In}
use Rattle.frs_base.specs.declared.version.Uid.{Uid}
use Rattle.vol_state.specs.declared.object.Object.{Object}
use Rattle.vol_state.specs.Maps.{maps_of}
use Rattle.vol_state.specs.State.{State, object_of, uid_of}
use Rattle.vol_state.specs.Valid.{IsVolume}
use Rattle.vol_state.proofs.Tabling.{item_of}
use Rattle.name_rules.specs.Next.{IsQuiet}
use Rattle.name_rules.specs.Shown.{AreShown, uid_cmp}
use Rattle.name_rules.specs.Steps.{subject_of}
use Rattle.name_rules.specs.declared.step.Step.{Step}
use Rattle.name_rules.specs.declared.step.Step.TheVariants.{Erase, Make, Park, Place, Rewrite, Skip, Unstage}
use Rattle.name_rules.specs.declared.step.Subject.{Subject}
use Rattle.name_rules.proofs.Lists.{contains_in, in_back, in_contains, in_either, in_front}
use Rattle.name_rules.proofs.Ranks.{uid_lt_is, uid_total}
use Rattle.name_rules.proofs.Sorting.{none_lower, sorted_rest}
use Rattle.record_db.specs.State.{BookState}
use Rattle.record_db.proofs.Keys.{uid_cases}
use Rattle.install_plan.specs.Agenda.{AreInOrder, IsAgenda}
use Rattle.install_plan.specs.Done.{Done}
use Rattle.install_plan.specs.Objects.{HasObject, IsSettled}
use Rattle.install_plan.specs.Staged.{staged_hashes}
use Rattle.install_plan.proofs.Tested.{one_there, stands}

-- ---- order

in_order : (uids : List Uid) → IsSortedBy (λ a b. is_lt (uid_cmp a b)) uids → AreInOrder uids
in_order [] up = tt
in_order (x ∷ xs) up = (
  λ other i. uid_lt_is other x ∙ none_lower (λ uid. uid) uid_cmp uid_total x xs up other i,
  in_order xs (sorted_rest (λ uid. uid) uid_cmp uid_total x xs up),
)

moved : (uids sorted : List Uid) → IsPermutation uids sorted → (uid : Uid) → In uid uids → In uid sorted
moved uids sorted same uid i = contains_in sorted uid (Contains-permutation uids sorted uid same (in_contains uids uid i))

-- ---- what isn't listed is done

-- it is one of them, or not
among : (uid : Uid) (uids : List Uid) → In uid uids ⊎ (In uid uids → ⊥)
among uid [] = inr (λ i. absurd i)
among uid (x ∷ xs) = elim (uid_cases uid x) [
  | inl same ↦ inl (inl same)
  | inr other ↦ elim (among uid xs) [ inl i ↦ inl (inr i) | inr out ↦ inr (λ h. elim h [ inl same ↦ other same | inr i ↦ out i ]) ]
]

module _ (v : State) (book : BookState) (uids : List Uid) (each : (o : Object) → In o v.objects → In (uid_of v.own o) uids ⊎ IsSettled v book o) where
  -- of an object of a file that isn't listed, it is settled
  settled : (uid : Uid) → (In uid uids → ⊥) → (fid : ℕ) (o : Object) → (maps_of v).at fid ≡ Some o → uid_of v.own o ≡ uid → IsSettled v book o
  settled uid out fid o at is = elim (each o (item_of v (maps_of v) (stands v) fid o at).1) [ inl i ↦ absurd (out (subst (λ x. In x uids) is i)) | inr done ↦ done ]

  pub listed_or_done : (shown : List Uid) → AreShown book.records shown → ((uid : Uid) → In uid shown → In uid uids ⊎ HasObject v uid)
      → (step : Step) (uid : Uid) → subject_of step ≡ Subject.Uid uid → In uid uids ⊎ Done v book step
  listed_or_done shown listed missing step uid of = elim (among uid uids) [ inl i ↦ inl i | inr out ↦ by out step of ]
    where
      same : (x : Uid) → Subject.Uid x ≡ Subject.Uid uid → x ≡ uid
      same x e = cc

      by : (In uid uids → ⊥) → (s : Step) → subject_of s ≡ Subject.Uid uid → In uid uids ⊎ Done v book s
      by out (Park x) e = inr (λ fid o p (at, is) placed. (settled uid out fid o at (is ∙ same x e)).home p placed)
      by out (Erase x) e = inr (λ fid o u (at, is) r id. (settled uid out fid o at (is ∙ same x e)).present u (r, id ∙ sym is))
      by out (Make x) e = elim (among uid shown) [
        | inl i ↦ elim (missing uid i) [ inl j ↦ inl j | inr (fid, o, at, is) ↦ inr (λ u up id. (fid, o, at, is ∙ sym (same x e))) ]
        | inr hidden ↦ inr (λ u up id. absurd (hidden (subst (λ y. In y shown) (id ∙ same x e) (listed.whole u up))))
      ]
      by out (Rewrite x) e = inr (λ fid o u (at, is) r id file. (settled uid out fid o at (is ∙ same x e)).current u (r, id ∙ sym is) file)
      by out (Place x) e = inr (λ fid o u (at, is) limbo up id. (settled uid out fid o at (is ∙ same x e)).placed (limbo, (u, (up, id ∙ sym is))))
      by out (Unstage x) e = inr (λ fid o (at, is) staged. (settled uid out fid o at (is ∙ same x e)).cleared (ap (staged_hashes book) is ∙ staged))
      by out (Skip usn) e = absurd (cc)

-- ---- a new agenda

pub new_agenda : (v : State) (book : BookState) (shown some uids sorted : List Uid) → AreShown book.records shown → IsQuiet book.consumed (maps_of v)
    → ((o : Object) → In o v.objects → In (uid_of v.own o) some ⊎ IsSettled v book o) → ((uid : Uid) → In uid some → In uid uids) → ((uid : Uid) → In uid shown → In uid uids ⊎ HasObject v uid)
    → IsPermutation uids sorted → IsSortedBy (λ a b. is_lt (uid_cmp a b)) sorted → IsAgenda v book (record { shown = shown; uids = sorted; last = None })
new_agenda v book shown some uids sorted listed quiet each kept missing same up = record {
  shown = listed;
  ordered = in_order sorted up;
  quiet = quiet;
  others = listed_or_done v book sorted
      (λ o i. elim (each o i) [ inl j ↦ inl (moved uids sorted same (uid_of v.own o) (kept (uid_of v.own o) j)) | inr done ↦ inr done ])
      shown listed
      (λ uid i. elim (missing uid i) [ inl j ↦ inl (moved uids sorted same uid j) | inr there ↦ inr there ]);
  passed = λ step uid of t. absurd (cc);
}

-- ---- one more

-- what holds of each of a list and of one more
one_more : {X : Type 0} (P : X → Type 0) (xs : List X) (y : X) → ((x : X) → In x xs → P x) → P y → (x : X) → In x (xs ++ y ∷ []) → P x
one_more P xs y each one x i = elim (in_either xs (y ∷ []) x i) [
  | inl before ↦ each x before
  | inr (inl same) ↦ subst P (sym same) one
  | inr (inr out) ↦ absurd out
]

-- of objects, while the list grows
pub more_settled : (v : State) (book : BookState) (own : ℕ) (uids new : List Uid) (objects : List Object) (o : Object) → ((uid : Uid) → In uid uids → In uid new)
    → ((x : Object) → In x objects → In (uid_of own x) uids ⊎ IsSettled v book x) → In (uid_of own o) new ⊎ IsSettled v book o
    → (x : Object) → In x (objects ++ o ∷ []) → In (uid_of own x) new ⊎ IsSettled v book x
more_settled v book own uids new objects o kept each one =
    one_more (λ x. In (uid_of own x) new ⊎ IsSettled v book x) objects o (λ x i. elim (each x i) [ inl j ↦ inl (kept (uid_of own x) j) | inr done ↦ inr done ]) one

-- and of files
pub more_missing : (v : State) (uids new shown : List Uid) (uid : Uid) → ((x : Uid) → In x uids → In x new) → ((x : Uid) → In x shown → In x uids ⊎ HasObject v x) → In uid new ⊎ HasObject v uid
    → (x : Uid) → In x (shown ++ uid ∷ []) → In x new ⊎ HasObject v x
more_missing v uids new shown uid kept each one = one_more (λ x. In x new ⊎ HasObject v x) shown uid (λ x i. elim (each x i) [ inl j ↦ inl (kept x j) | inr there ↦ inr there ]) one

-- the list grew by one
pub grew : (uids new : List Uid) (uid : Uid) → new ≡ uids ++ uid ∷ [] → ((x : Uid) → In x uids → In x new) × In uid new
grew uids new uid is = (
  λ x i. subst (λ l. In x l) (sym is) (in_front uids (uid ∷ []) x i),
  subst (λ l. In uid l) (sym is) (in_back uids (uid ∷ []) uid (inl refl)),
)

-- a file whose look-up finds something has an object
pub found_there : (v : State) → IsVolume v → (uid : Uid) (found : Option Object) → found ≡ object_of v uid → is_some found ≡ true → HasObject v uid
found_there v valid uid None e some = absurd (cc)
found_there v valid uid (Some o) e some = let (at, is) = one_there v valid uid o (sym e) in (o.fid, o, at, is)

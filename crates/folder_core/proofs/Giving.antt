-- A present file is given with a form that has its record's hash.
use Rattle.std.proofs.Common.{◌≡◌, ◌<◌, ◌^◌, ℕ, List, [], ◌∷◌, length, Option, Some, None, refl, sym, ap, ◌∙◌, subst, inl, inr, arith}
use Rattle.std.specs.Prelude.{if◌then◌else◌, option_map}
use Rattle.std.proofs.lemmas.List.{length-append}
use Rattle.frs_base.specs.Options.{In}
use Rattle.frs_base.specs.declared.kind.Kind.TheVariants as kind
use Rattle.frs_base.specs.declared.version.Uid.{Uid}
use Rattle.marshal_form.specs.Laws.{SpellingsAreForms}
use Rattle.marshal_form.specs.Local.{IsLocalForm, local}
use Rattle.marshal_form.specs.Spelling.{head_of, spelling}
use Rattle.win_order.specs.declared.update.Update.{Update}
use Rattle.vol_state.specs.declared.object.Object.{Object}
use Rattle.vol_state.specs.Journal.{pending_local}
use Rattle.vol_state.specs.Maps.{maps_of}
use Rattle.vol_state.specs.Pending.{IsLastPending}
use Rattle.vol_state.specs.State.{object_of, uid_of}
use Rattle.vol_state.specs.Sums.{content_sum, file_sum}
use Rattle.vol_state.proofs.Finding.{at_in}
use Rattle.vol_state.proofs.Recent.{pending_is_last}
use Rattle.record_db.specs.State.{form_of}
use Rattle.record_db.proofs.Lists.{find_at}
use Rattle.name_rules.specs.Next.{IsPending}
use Rattle.name_rules.specs.Recorded.{held_of}
use Rattle.name_rules.specs.Tree.{is_file}
use Rattle.pinned_pages.specs.declared.answer.FileAnswer.TheVariants.{Found}
use Rattle.world_model.specs.Folder.{FolderIsSound, IsFound}
use Rattle.world_model.specs.Invariant.{HasSum}
use Rattle.world_model.proofs.Installed.{file_kind}
use Rattle.folder_core.specs.Laws.{FilesHaveForms}
use Rattle.folder_core.specs.Machine.{Machine, first_of}
use Rattle.folder_core.specs.Notes.{form_sum}
use Rattle.folder_core.specs.Serve.{answer_by, form_at}
use Rattle.folder_core.specs.Sound.{member_of, staged_sums}
use Rattle.folder_core.proofs.Alike.{stands_for_maps}
use Rattle.folder_core.proofs.Fitting.{object_found}
use Rattle.folder_core.proofs.Held.{held_is}

-- ---- what is found

some_is : {T : Type 0} (x y : T) → Some x ≡ Some y → x ≡ y
some_is x y e = cc

none_some : {T : Type 0} (x : T) → None ≡ Some x → ⊥
none_some x e = cc

-- what is found is the record, of which nothing is pending
record Gives (m : Machine) (uid : Uid) (u : Update) (body : Option (List ℕ)) : Type 0 where
  pub held : held_of m.book.records uid ≡ Some u
  pub waiting : pending_local m.volume.journal uid m.book.consumed ≡ None
  pub body_is : body ≡ (if is_file u then form_at m uid else None)

gives : (at place : ℕ) (m : Machine) (uid : Uid) (u : Update) (body : Option (List ℕ))
    → answer_by at (held_of m.book.records uid) (pending_local m.volume.journal uid m.book.consumed) (form_at m uid) ≡ Found place u body → Gives m uid u body
gives at place m uid u body e = by (held_of m.book.records uid) refl (pending_local m.volume.journal uid m.book.consumed) refl e
  where
    record_is : (x : Update) (a : Option (List ℕ)) → Found at x a ≡ Found place u body → x ≡ u
    record_is x a e = cc

    body_is : (x : Update) (a : Option (List ℕ)) → Found at x a ≡ Found place u body → a ≡ body
    body_is x a e = cc

    by : (held : Option Update) → held_of m.book.records uid ≡ held → (waiting : Option ℕ) → pending_local m.volume.journal uid m.book.consumed ≡ waiting
        → answer_by at held waiting (form_at m uid) ≡ Found place u body → Gives m uid u body
    by None p waiting q e = absurd (cc)
    by (Some v) p (Some usn) q e = absurd (cc)
    by (Some v) p None q e =
        let form : Option (List ℕ) = if is_file v then form_at m uid else None in
        let same = record_is v form e in
        record {
          held = p ∙ ap (λ z. Some z) same;
          waiting = q;
          body_is = sym (body_is v form e) ∙ ap (λ z. if is_file z then form_at m uid else None) same;
        }

-- ---- forms

-- a form with the hash of a file
abbrev HasForm : Machine → Uid → Update → Type 0
HasForm m uid u = (form : List ℕ) × (form_at m uid ≡ Some form) × (form_sum form ≡ u.hash) × (length form < 2 ^ 64 → (contents : List ℕ) × IsLocalForm form contents)

-- the sum of contents is that of their form
pub sum_is : (bytes : List ℕ) → content_sum kind.File bytes ≡ form_sum (spelling local bytes)
unfolding file_sum
sum_is bytes = refl

-- the form of an object
object_form : SpellingsAreForms → (m : Machine) (uid : Uid) (u : Update) (o : Object) → form_of m.book uid ≡ None → object_of m.volume uid ≡ Some o → o.sum ≡ u.hash → o.kind ≡ kind.File
    → o.sum ≡ content_sum o.kind o.bytes → HasForm m uid u
object_form forms m uid u o none found same is_file sum = (
  spelling local o.bytes,
  ap (λ f. first_of (f ∷ option_map (λ (x : Object). spelling local x.bytes) (object_of m.volume uid) ∷ [])) none
      ∙ ap (λ f. first_of (None ∷ option_map (λ (x : Object). spelling local x.bytes) f ∷ [])) found,
  sym (sum_is o.bytes) ∙ (ap (λ k. content_sum k o.bytes) (sym is_file) ∙ (sym sum ∙ same)),
  λ short. (o.bytes, forms local o.bytes (omega arith) refl (below short)),
)
  where
    below : length (spelling local o.bytes) < 2 ^ 64 → length o.bytes < 2 ^ 64
    below short = let long = length-append (head_of local (length o.bytes)) o.bytes in omega (arith, long, short)

pub files_have_forms : SpellingsAreForms → FilesHaveForms
files_have_forms forms at place m uid u body h found file =
    let g = gives at place m uid u body found in
    let (form, is, sum, local) = by (form_of m.book uid) refl g in
    (form, g.body_is ∙ (ap (λ b. if b then form_at m uid else None) file ∙ is), sum, local)
  where
    agrees : FolderIsSound m.book.own (member_of m) m.book.records
    agrees = h.agrees

    held_in : Gives m uid u body → In u m.book.records × (u.uid ≡ uid)
    held_in g = subst (IsFound m.book.records uid) g.held (held_is m.book.records uid)

    -- no local record of the file waits
    not_pending : Gives m uid u body → IsPending m.book.consumed (maps_of m.volume) u.uid → ⊥
    not_pending g (n, r, past, there, local, same) =
        (subst (IsLastPending (maps_of m.volume) uid m.book.consumed) g.waiting (pending_is_last m.volume (maps_of m.volume) uid m.book.consumed h.order.numbered (stands_for_maps m.volume)))
        n (r, there, past, local, same ∙ (held_in g).1)

    -- the object has the hash as its sum
    of_object : Gives m uid u body → form_of m.book uid ≡ None → HasSum m.book.own (maps_of m.volume) u.uid u.hash → HasForm m uid u
    of_object g none (fid, o, there, of, sum) =
        let (among, is) = held_in g in
        let kind = sym (agrees.member.objects.kinds fid o u there among (sym of)) ∙ file_kind u file in
        let here = object_found m.volume h.order.volume fid o uid there (ap (λ own. uid_of own o) h.order.own ∙ (of ∙ is)) in
        object_form forms m uid u o none here sum kind (h.order.volume.summed o (at_in fid o m.volume.objects there).0).sum

    by : (staged : Option (List ℕ)) → form_of m.book uid ≡ staged → Gives m uid u body → HasForm m uid u
    by (Some f) p g =
        let (v, among, is, of_file, hash) = agrees.member.contents.staged uid (form_sum f) (ap (λ s. option_map form_sum s) p) in
        let same : Some v ≡ Some u = sym (find_at m.book.records uid v h.order.book.rising among is) ∙ g.held in (
          f,
          ap (λ s. first_of (s ∷ option_map (λ (x : Object). spelling local x.bytes) (object_of m.volume uid) ∷ [])) p,
          sym hash ∙ ap (λ z. z.hash) (some_is v u same),
          λ short. ((h.forms uid f p).contents, (h.forms uid f p).is),
        )
    by None p g =
        let (among, is) = held_in g in
        elim (agrees.member.contents.keeps u among file) [
          | inl staged ↦ absurd (none_some u.hash (sym (ap (λ s. option_map form_sum s) p) ∙ (ap (staged_sums m.book) (sym is) ∙ staged)))
          | inr (inl sum) ↦ of_object g p sum
          | inr (inr waits) ↦ absurd (not_pending g waits)
        ]

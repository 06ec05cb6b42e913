-- Each next step of the installer meets the condition of its operation.
use Rattle.std.specs.Prelude.{MatchOption}
use Rattle.std.proofs.Common.{◌≡◌, ◌≢◌, ◌≤◌, ◌⊎◌, ℕ, zero, suc, true, false, List, [], length, refl, sym, ap, ◌∙◌, subst, arith, inl, inr, Option, Some, None}
use Rattle.frs_base.specs.Names.{matches}
use Rattle.frs_base.specs.Options.{In}
use Rattle.frs_base.specs.declared.kind.Kind.TheVariants.{File}
use Rattle.frs_base.specs.declared.sum.Sum.{Sum}
use Rattle.frs_base.specs.declared.version.Uid.{Uid}
use Rattle.win_order.specs.Order.{is_directory, key_of}
use Rattle.win_order.specs.declared.update.Update.{Update}
use Rattle.vol_state.specs.declared.object.Object.{Object}
use Rattle.vol_state.specs.declared.command.VolCmd.{VolCmd}
use Rattle.vol_state.specs.declared.command.VolCmd.TheVariants as cmd
use Rattle.vol_state.specs.Places.{is_directory as is_directory_kind}
use Rattle.vol_state.specs.State.{uid_of}
use Rattle.vol_state.specs.Sums.{content_sum}
use Rattle.vol_state.specs.Conditions.{root_uid}
use Rattle.vol_state.specs.Tables.{BeneathBy, IsAt, IsBeneath, IsDirectory, IsEmpty, IsFree, IsReplica}
use Rattle.record_db.proofs.Best.{best_one, held_is}
use Rattle.record_db.proofs.Keys.{key_same}
use Rattle.name_rules.specs.Recorded.{parent_uid}
use Rattle.name_rules.specs.Tree.{HasName, IsShown, ShownBy, is_file, kind_of}
use Rattle.name_rules.specs.Next.{IsCandidate, IsDue, IsQuiet, IsStepOf, IsThere, IsTurn, NothingToMake, NothingToPark}
use Rattle.name_rules.specs.declared.step.Step.{Step as InstallStep}
use Rattle.name_rules.specs.declared.step.Step.TheVariants as install_step
use Rattle.name_rules.proofs.Parents.{kind_is, parent_is, parent_root}
use Rattle.name_rules.proofs.Showing.{shown_record}
use Rattle.world_model.specs.World.{Member, World, IsRecordOf}
use Rattle.world_model.specs.Invariant.{HasSum, Invariant, MemberIsSound}
use Rattle.world_model.specs.Folder.{AreStaged, GivesStaged}
use Rattle.world_model.specs.Laws.{IsOperated, NextStepsCanBeDone}
use Rattle.world_model.proofs.Facts.{none_some, some_is, true_false}
use Rattle.world_model.proofs.Installed.{file_kind, file_split, no_pending}
use Rattle.world_model.proofs.Names.{matches_is, matches_sym, matches_trans}

-- a member and its records R, one of each file and of each version; K are the updates that tell what a file is
pub record IsMember (K R : Update → Type 0) (own : ℕ) (x : Member) : Type 0 where
  pub one : (u v : Update) → R u → R v → u.uid ≡ v.uid → u ≡ v
  pub versions : (u v : Update) → R u → R v → u.gvsn ≡ v.gvsn → u ≡ v
  pub known : (u : Update) → R u → K u
  pub no_root : (u : Update) → R u → u.uid ≢ root_uid
  pub sound : MemberIsSound K R own x

-- whose placed objects are in place
record IsParked (K R : Update → Type 0) (own : ℕ) (x : Member) : Type 0 where
  pub member : IsMember K R own x
  pub park : NothingToPark R own x.volume

-- what is shown has its name
pub shown_name : (R : Update → Type 0) (u : Update) → IsShown R u → HasName R u
shown_name R u (zero, h) = absurd h
shown_name R u (suc n, h) = h.0

-- a place in the root is 0
root_place : (K R : Update → Type 0) (own : ℕ) (x : Member) → MemberIsSound K R own x → (f : ℕ) → IsDirectory x.volume f → parent_uid own x.volume f ≡ root_uid → f ≡ 0
root_place K R own x s f (inl z) e = z
root_place K R own x s f (inr (o, at, d)) e = absurd (s.objects.no_root f o at (sym (parent_is own x.volume f o s.numbers.root at) ∙ e))

-- no object is the root, so it is beneath none
root_above : (K R : Update → Type 0) (own : ℕ) (x : Member) → MemberIsSound K R own x → (f : ℕ) (o : Object) → IsAt x.volume f o → (k g : ℕ) → g ≡ 0 → BeneathBy x.volume f k g → ⊥
root_above K R own x s f o at zero g z e = none_some o (sym s.numbers.root ∙ subst (λ i. x.volume.at i ≡ Some o) (sym e ∙ z) at)
root_above K R own x s f o at (suc k) g z (inl e) = none_some o (sym s.numbers.root ∙ subst (λ i. x.volume.at i ≡ Some o) (sym e ∙ z) at)
root_above K R own x s f o at (suc k) g z (inr (a, p, at', place, h)) = none_some a (sym s.numbers.root ∙ subst (λ i. x.volume.at i ≡ Some a) z at')

-- ---- no cycle: from a shown record's place nothing leads back to its own object

-- p is shown by n steps and its object is at g; a chain from g to f gives that the record of f's object is shown by at most n steps
descend : (K R : Update → Type 0) (own : ℕ) (x : Member) → IsParked K R own x → (f : ℕ) (o : Object) (u : Update) → IsAt x.volume f o → R u → u.uid ≡ uid_of own o
    → (k g n : ℕ) (p : Update) (q : Object) → IsAt x.volume g q → uid_of own q ≡ p.uid → ShownBy R n p → BeneathBy x.volume f k g → (n' : ℕ) × (n' ≤ n) × ShownBy R n' u
descend K R own x h f o u at r uid k g n p q at' uid' shown chain = go k g n p q at' uid' shown chain
  where
    here : (g n : ℕ) (p : Update) (q : Object) → IsAt x.volume g q → uid_of own q ≡ p.uid → ShownBy R n p → g ≡ f → (n' : ℕ) × (n' ≤ n) × ShownBy R n' u
    here g n p q at' uid' shown e =
        let same : q ≡ o = some_is q o (sym at' ∙ subst (λ i. x.volume.at i ≡ Some o) (sym e) at) in
        let is : p ≡ u = h.member.one p u (shown_record R p (n, shown)) r (sym uid' ∙ (ap (uid_of own) same ∙ sym uid)) in
        (n, omega arith, subst (ShownBy R n) is shown)

    go : (k g n : ℕ) (p : Update) (q : Object) → IsAt x.volume g q → uid_of own q ≡ p.uid → ShownBy R n p → BeneathBy x.volume f k g → (n' : ℕ) × (n' ≤ n) × ShownBy R n' u
    go zero g n p q at' uid' shown e = here g n p q at' uid' shown e
    go (suc k) g n p q at' uid' shown (inl e) = here g n p q at' uid' shown e
    go (suc k) g zero p q at' uid' shown (inr (y, z, b, c, chain)) = absurd shown
    go (suc k) g (suc n) p q at' uid' shown (inr (y, z, b, c, chain)) = up (λ a t at2 id2 sh. go k z.0 n a t at2 id2 sh chain) shown.1
      where
        same : (v : Update) → IsShown R v → v.uid ≡ uid_of own y → v ≡ p
        same v sh id = h.member.one v p (shown_record R v sh) shown.0.among (id ∙ (ap (uid_of own) (some_is y q (sym b ∙ at')) ∙ uid'))

        parent : p.parent ≡ parent_uid own x.volume z.0
        parent = let (v, sh, id, par, name) = h.park g y z b c in ap (λ w. w.parent) (sym (same v sh id)) ∙ par

        up : ((a : Update) (t : Object) → IsAt x.volume z.0 t → uid_of own t ≡ a.uid → ShownBy R n a → (n' : ℕ) × (n' ≤ n) × ShownBy R n' u) → (p.parent ≡ root_uid) ⊎ ((a : Update) × (a.uid ≡ p.parent) × (is_directory a ≡ true) × ShownBy R n a)
            → (n' : ℕ) × (n' ≤ suc n) × ShownBy R n' u
        up rec (inl root) = absurd (root_above K R own x h.member.sound f o at k z.0 (root_place K R own x h.member.sound z.0 (h.member.sound.places.parents g y z b c) (sym parent ∙ root)) chain)
        up rec (inr (a, id, dir, sh)) = next (h.member.sound.places.parents g y z b c)
          where
            next : IsDirectory x.volume z.0 → (n' : ℕ) × (n' ≤ suc n) × ShownBy R n' u
            next (inl e) = absurd (h.member.no_root a (shown_record R a (n, sh)) (id ∙ (parent ∙ parent_root own x.volume z.0 e)))
            next (inr (t, at2, d2)) =
                let (n', l, sh') = rec a t at2 (sym (parent_is own x.volume z.0 t h.member.sound.numbers.root at2) ∙ (sym parent ∙ sym id)) sh in (n', omega (arith, l), sh')

-- the parent of a shown record isn't beneath its own object
no_cycle : (K R : Update → Type 0) (own : ℕ) (x : Member) → IsParked K R own x → (f g : ℕ) (o q : Object) (u p : Update) → IsAt x.volume f o → R u → u.uid ≡ uid_of own o
    → IsAt x.volume g q → uid_of own q ≡ p.uid → p.uid ≡ u.parent → u.parent ≢ root_uid → IsBeneath x.volume f g → (top m : ℕ) → m ≤ top → ShownBy R m u → ⊥
no_cycle K R own x h f g o q u p at r uid at' uid' parent rooted (k, chain) top zero l sh = sh
no_cycle K R own x h f g o q u p at r uid at' uid' parent rooted (k, chain) zero (suc m) l sh = omega (arith, l)
no_cycle K R own x h f g o q u p at r uid at' uid' parent rooted (k, chain) (suc top) (suc m) l sh =
    again (λ n' l' sh'. no_cycle K R own x h f g o q u p at r uid at' uid' parent rooted (k, chain) top n' l' sh') sh.1
  where
    again : ((n' : ℕ) → n' ≤ top → ShownBy R n' u → ⊥) → (u.parent ≡ root_uid) ⊎ ((a : Update) × (a.uid ≡ u.parent) × (is_directory a ≡ true) × ShownBy R m a) → ⊥
    again rec (inl root) = rooted root
    again rec (inr (a, id, dir, shown)) =
        let (n', l', sh') = descend K R own x h f o u at r uid k g m a q at' (uid' ∙ (parent ∙ sym id)) shown chain in
        rec n' (omega (arith, l, l')) sh'

-- ---- the conditions of erase and place

-- the directory of an update: the root, or the object of its parent's record
abbrev pub HasHome : (Update → Type 0) → ℕ → Member → Update → Type 0
HasHome R own x u = (u.parent ≡ root_uid)
    ⊎ ((p : Update) × (g : ℕ) × (q : Object) × (p.uid ≡ u.parent) × IsAt x.volume g q × (uid_of own q ≡ p.uid) × (is_directory_kind q.kind ≡ true) × R p)

-- a shown record has one
pub home : (K R : Update → Type 0) (own : ℕ) (x : Member) (u : Update) → IsMember K R own x → NothingToMake R own x.volume → IsShown R u → HasHome R own x u
home K R own x u m make (zero, h) = absurd h
home K R own x u m make (suc n, (name, inl root)) = inl root
home K R own x u m make (suc n, (name, inr (p, id, dir, h))) =
    let (g, q, at, uid) = make p (n, h) in
    let r = shown_record R p (n, h) in
    inr (p, g, q, id, at, uid, ap is_directory_kind (sym (m.sound.objects.kinds g q p at (m.known p r) (sym uid))) ∙ (kind_is p ∙ dir), r)

-- an object of a record that isn't shown has nothing in it
bare : (K R : Update → Type 0) (own : ℕ) (x : Member) → IsParked K R own x → (f : ℕ) (o : Object) (r : Update) → IsAt x.volume f o → R r → r.uid ≡ uid_of own o → r.present ≡ false → IsEmpty x.volume f
bare K R own x h f o r at is_record uid absent g c p at' place e =
    let (v, shown, id, parent, name) = h.park g c p at' place in
    go v shown (parent ∙ (ap (parent_uid own x.volume) e ∙ parent_is own x.volume f o h.member.sound.numbers.root at))
  where
    go : (v : Update) → IsShown R v → v.parent ≡ uid_of own o → ⊥
    go v (zero, sh) up = sh
    go v (suc n, (nm, inl root)) up = h.member.sound.objects.no_root f o at (sym up ∙ root)
    go v (suc n, (nm, inr (a, id, dir, sh))) up =
        let same : a ≡ r = h.member.one a r (shown_record R a (n, sh)) is_record (id ∙ (up ∙ sym uid)) in
        true_false r.present (ap (λ z. z.present) (sym same) ∙ (shown_name R a (n, sh)).present) absent

-- no other object has the name of a shown record there
free : (K R : Update → Type 0) (own : ℕ) (x : Member) (f g : ℕ) (o : Object) (u : Update) → IsParked K R own x → IsAt x.volume f o → IsShown R u → u.uid ≡ uid_of own o
    → u.parent ≡ parent_uid own x.volume g → IsFree x.volume f g u.name
free K R own x f g o u h at shown uid parent c q p at' place here match =
    let (v, shown', id, parent', name) = h.park c q p at' place in
    let a = shown_name R u shown in
    let b = shown_name R v shown' in
    let up : v.parent ≡ u.parent = parent' ∙ (ap (parent_uid own x.volume) here ∙ sym parent) in
    let alike : matches v.name u.name ≡ true = matches_trans v.name p.1 u.name (matches_is v.name p.1 name) match in
    let same : u ≡ v = h.member.versions u v a.among b.among
    (key_same (key_of u) (key_of v) (a.greatest v b.among b.present up alike) (b.greatest u a.among a.present (sym up) (matches_sym v.name u.name alike))) in
    h.member.sound.places.uids c f q o at' at (sym id ∙ (ap (λ z. z.uid) (sym same) ∙ uid))

-- the contents of a present file that no object has are staged
staged_for : (K R : Update → Type 0) (own : ℕ) (x : Member) (u : Update) → MemberIsSound K R own x → IsQuiet x.consumed x.volume → R u → is_file u ≡ true
    → (HasSum own x.volume u.uid u.hash → ⊥) → x.staged u.uid ≡ Some u.hash
staged_for K R own x u s quiet r i none =
    elim (s.contents.keeps u r i) [ inl k ↦ k | inr k ↦ elim k [ inl c ↦ absurd (none c) | inr p ↦ absurd (no_pending x u.uid quiet p) ] ]

-- ---- each kind of step

-- an object of a tombstone is in limbo
in_limbo : (K R : Update → Type 0) (own : ℕ) (x : Member) → IsParked K R own x → (f : ℕ) (o : Object) (u : Update) → IsAt x.volume f o → R u → u.uid ≡ uid_of own o → u.present ≡ false
    → (place : Option (ℕ × List ℕ)) → o.place ≡ place → o.place ≡ None
in_limbo K R own x h f o u at r uid absent None e = e
in_limbo K R own x h f o u at r uid absent (Some p) e =
    let (v, shown, id, parent, name) = h.park f o p at e in
    let same : v ≡ u = h.member.one v u (shown_record R v shown) r (id ∙ sym uid) in
    absurd (true_false u.present (ap (λ z. z.present) (sym same) ∙ (shown_name R v shown).present) absent)

-- ---- contents

-- nothing is staged of what is no file
bare_where : (K R : Update → Type 0) (own : ℕ) (x : Member) (u : Update) → IsMember K R own x → R u → is_directory u ≡ true → (staged : Option Sum) → x.staged u.uid ≡ staged → (bytes : List ℕ)
    → MatchOption staged (bytes ≡ []) (λ sum. content_sum File bytes ≡ sum) → bytes ≡ []
bare_where K R own x u m r dir None e bytes given = given
bare_where K R own x u m r dir (Some sum) e bytes given =
    let (v, r', id, is, hash) = m.sound.contents.staged u.uid sum e in
    absurd (true_false (is_directory u) dir (ap is_directory (m.one u v r r' (sym id)) ∙ file_split v is))

-- what is staged of a file is its contents
given_sum : (x : Member) (u : Update) (uid : Uid) (bytes : List ℕ) → u.uid ≡ uid → x.staged u.uid ≡ Some u.hash → AreStaged x uid bytes → content_sum File bytes ≡ u.hash
given_sum x u uid bytes id staged given = subst (λ z. MatchOption z (bytes ≡ []) (λ sum. content_sum File bytes ≡ sum)) (ap x.staged (sym id) ∙ staged) given

-- ---- each kind of step may be done

module _ (K R : Update → Type 0) (own : ℕ) (x : Member) (m : IsMember K R own x) (quiet : IsQuiet x.consumed x.volume) where
  -- due, and its condition holds
  abbrev MayBeDone : VolCmd → Type 0
  MayBeDone op = IsDue R own x.volume x.staged op × IsReplica own x.volume op

  -- the object of a file has one number
  moved : (f g : ℕ) (o q : Object) (uid : Uid) → IsAt x.volume f o → uid_of own o ≡ uid → IsAt x.volume g q → uid_of own q ≡ uid → IsAt x.volume g o
  moved f g o q uid at is at' is' = subst (λ i. IsAt x.volume i o) (m.sound.places.uids f g o q at at' (is ∙ sym is')) at

  park_fits : (uid : Uid) (op : VolCmd) → IsCandidate R own x.volume x.staged x.consumed (install_step.Park uid) → IsStepOf R own x.volume (install_step.Park uid) op → MayBeDone op
  park_fits uid op (f, o, p, at, is, place, out) (g, q, at', is', e) =
      let here = moved f g o q uid at is at' is' in
      subst MayBeDone (sym e) ((o, p, here, place, out), (o, here, λ z. none_some p (sym z ∙ place)))

  erase_fits : (uid : Uid) (op : VolCmd) → NothingToPark R own x.volume → IsCandidate R own x.volume x.staged x.consumed (install_step.Erase uid) → IsStepOf R own x.volume (install_step.Erase uid) op → MayBeDone op
  erase_fits uid op park (f, o, u, at, is, r, id, absent) (g, q, at', is', e) =
      let here = moved f g o q uid at is at' is' in
      let parked : IsParked K R own x = record { member = m; park = park } in
      subst MayBeDone (sym e) (
        (o, u, here, r, id ∙ sym is, absent),
        (o, here, in_limbo K R own x parked g o u here r (id ∙ sym is) absent o.place refl, bare K R own x parked g o u here r (id ∙ sym is) absent),
      )

  make_fits : (uid : Uid) (op : VolCmd) → IsCandidate R own x.volume x.staged x.consumed (install_step.Make uid) → IsStepOf R own x.volume (install_step.Make uid) op → GivesStaged own x op → MayBeDone op
  make_fits uid op (u, shown, id, fresh) (v, bytes, r', id', e) gives = subst MayBeDone (sym e) ((v, shown_v, id', refl, sums), ((λ z. m.no_root v r' (id' ∙ z)), fresh, bare_v))
    where
      given : AreStaged x uid bytes
      given = subst (GivesStaged own x) e gives

      shown_v : IsShown R v
      shown_v = subst (IsShown R) (m.one u v (shown_record R u shown) r' (id ∙ sym id')) shown

      sums : is_file v ≡ true → (x.staged uid ≡ Some (content_sum (kind_of v) bytes)) × (content_sum (kind_of v) bytes ≡ v.hash)
      sums i =
          let staged = staged_for K R own x v m.sound quiet r' i (λ c. fresh c.0 c.1 c.2 (c.3 ∙ id')) in
          let sum : content_sum (kind_of v) bytes ≡ v.hash = ap (λ k. content_sum k bytes) (file_kind v i) ∙ given_sum x v uid bytes id' staged given in
          (ap x.staged (sym id') ∙ (staged ∙ ap Some (sym sum)), sum)

      bare_v : is_directory_kind (kind_of v) ≡ true → length bytes ≡ 0
      bare_v d = ap length (bare_where K R own x v m r' (sym (kind_is v) ∙ d) (x.staged v.uid) refl bytes (subst (λ i. AreStaged x i bytes) (sym id') given))

  rewrite_fits : (uid : Uid) (op : VolCmd) → IsCandidate R own x.volume x.staged x.consumed (install_step.Rewrite uid) → IsStepOf R own x.volume (install_step.Rewrite uid) op → GivesStaged own x op → MayBeDone op
  rewrite_fits uid op (f, o, u, at, is, r, id, file, differs) (g, q, bytes, at', is', e) gives =
      subst MayBeDone (sym e) ((o, u, here, r, id ∙ sym is, file, differs, staged ∙ ap Some (sym sum), sum), (o, here, ap is_directory_kind (sym kind) ∙ (kind_is u ∙ file_split u file)))
    where
      here : IsAt x.volume g o
      here = moved f g o q uid at is at' is'

      given : AreStaged x u.uid bytes
      given = subst (λ i. AreStaged x i bytes) (is ∙ sym id) (subst (GivesStaged own x) e gives o here)

      kind : kind_of u ≡ o.kind
      kind = m.sound.objects.kinds g o u here (m.known u r) (id ∙ sym is)

      staged : x.staged u.uid ≡ Some u.hash
      staged = staged_for K R own x u m.sound quiet r file
          (λ c. differs (ap (λ z. z.sum) (some_is o c.1 (sym (moved f c.0 o c.1 u.uid at (is ∙ sym id) c.2 c.3) ∙ c.2)) ∙ c.4))

      sum : content_sum o.kind bytes ≡ u.hash
      sum = ap (λ k. content_sum k bytes) (sym kind ∙ file_kind u file) ∙ given_sum x u u.uid bytes refl staged given

  -- the number of a shown record's directory is that of one, which the record's object isn't above
  lands : (f g : ℕ) (o : Object) (u : Update) → NothingToPark R own x.volume → NothingToMake R own x.volume → IsAt x.volume f o → IsShown R u → u.uid ≡ uid_of own o → IsThere x.volume g
      → u.parent ≡ parent_uid own x.volume g → IsDirectory x.volume g × (IsBeneath x.volume f g → ⊥)
  lands f g o u park make at shown id (inl z) up = (inl z, λ b. root_above K R own x m.sound f o at b.0 g z b.1)
  lands f g o u park make at shown id (inr (q, at')) up = by (home K R own x u m make shown)
    where
      here : u.parent ≡ uid_of own q
      here = up ∙ parent_is own x.volume g q m.sound.numbers.root at'

      by : HasHome R own x u → IsDirectory x.volume g × (IsBeneath x.volume f g → ⊥)
      by (inl root) = absurd (m.sound.objects.no_root g q at' (sym here ∙ root))
      by (inr (p, k, t, pid, at2, uid2, dir, rp)) =
          let there : IsAt x.volume g t = moved k g t q p.uid at2 uid2 at' (sym here ∙ sym pid) in (
            inr (t, there, dir),
            λ b. no_cycle K R own x (record { member = m; park = park }) f g o t u p at (shown_record R u shown) id there uid2 pid
                (λ z. m.no_root p rp (pid ∙ z)) b shown.0 shown.0 (omega arith) shown.1,
          )

  place_fits : (uid : Uid) (op : VolCmd) → NothingToPark R own x.volume → NothingToMake R own x.volume → IsCandidate R own x.volume x.staged x.consumed (install_step.Place uid)
      → IsStepOf R own x.volume (install_step.Place uid) op → MayBeDone op
  place_fits uid op park make (f, o, u, at, is, limbo, shown, id) (g, q, v, h, at', is', r', id', there, up, e) =
      let (dir, apart) = lands g h o v park make here shown_v own_v there up in
      subst MayBeDone (sym e) ((o, v, here, shown_v, own_v, up, refl), (o, here, limbo, dir, apart, free K R own x g h o v (record { member = m; park = park }) here shown_v own_v up))
    where
      here : IsAt x.volume g o
      here = moved f g o q uid at is at' is'

      shown_v : IsShown R v
      shown_v = subst (IsShown R) (m.one u v (shown_record R u shown) r' (id ∙ sym id')) shown

      own_v : v.uid ≡ uid_of own o
      own_v = id' ∙ sym is

  -- so may each
  pub step_fits : (step : InstallStep) (op : VolCmd) → IsTurn R own x.volume x.staged step → IsCandidate R own x.volume x.staged x.consumed step → IsStepOf R own x.volume step op → GivesStaged own x op
      → MayBeDone op
  step_fits (install_step.Park uid) op turn c is gives = park_fits uid op c is
  step_fits (install_step.Erase uid) op turn c is gives = erase_fits uid op turn c is
  step_fits (install_step.Make uid) op turn c is gives = make_fits uid op c is gives
  step_fits (install_step.Rewrite uid) op turn c is gives = rewrite_fits uid op c is gives
  step_fits (install_step.Place uid) op (park, erase, make, rewrite) c is gives = place_fits uid op park make c is
  step_fits (install_step.Unstage uid) op turn c is gives = absurd is
  step_fits (install_step.Skip usn) op turn c is gives = absurd is

-- ---- in the world

-- a member of a world that keeps the invariant, and its records
pub member_at : (w : World) → Invariant w → (d : ℕ) → IsMember (λ u. In u w.all) (IsRecordOf w d) d (w.at d)
member_at w h d = record {
  one = λ u v a b same. best_one u v (λ p q k n. h.versions.one_each p q k.0 n.0) a b same;
  versions = λ u v a b same. h.versions.one_each u v a.among.0 b.among.0 same;
  known = λ u r. r.among.0;
  no_root = λ u r. h.files.no_root u r.among.0;
  sound = h.members d;
}

-- contents that are staged of a file
contents_at : (w : World) → Invariant w → (d : ℕ) (uid : Uid) → (staged : Option Sum) → (w.at d).staged uid ≡ staged → (bytes : List ℕ) × MatchOption staged (bytes ≡ []) (λ sum. content_sum File bytes ≡ sum)
contents_at w h d uid None e = ([], refl)
contents_at w h d uid (Some sum) e =
    let (u, r, id, is, hash) = (h.members d).contents.staged uid sum e in
    let (bytes, is_sum) = h.sums.hashes u r.among.0 is in
    (bytes, is_sum ∙ hash)

-- the operation of a step that is not of the last two kinds
abbrev HasOperation : World → ℕ → InstallStep → Type 0
HasOperation w d step = (op : VolCmd) × IsStepOf (IsRecordOf w d) d (w.at d).volume step op × GivesStaged d (w.at d) op

-- it is done
operates : (w : World) → Invariant w → (d : ℕ) → IsQuiet (w.at d).consumed (w.at d).volume → (step : InstallStep) → IsTurn (IsRecordOf w d) d (w.at d).volume (w.at d).staged step
    → IsCandidate (IsRecordOf w d) d (w.at d).volume (w.at d).staged (w.at d).consumed step → HasOperation w d step → (new : World) × IsOperated w d step new
operates w h d quiet step turn c (op, is, gives) =
    let (due, ok) = step_fits (λ u. In u w.all) (IsRecordOf w d) d (w.at d) (member_at w h d) quiet step op turn c is gives in
    (_, (op, is, (quiet, due, ok, refl)))

pub next_steps : NextStepsCanBeDone
next_steps w h d quiet (install_step.Park file) turn (f, o, p, at, uid, place, out) =
    operates w h d quiet (install_step.Park file) turn (f, o, p, at, uid, place, out) (cmd.Park f, (f, o, at, uid, refl), tt)
next_steps w h d quiet (install_step.Erase file) turn (f, o, u, at, uid, r, id, absent) =
    operates w h d quiet (install_step.Erase file) turn (f, o, u, at, uid, r, id, absent) (cmd.Erase f, (f, o, at, uid, refl), tt)
next_steps w h d quiet (install_step.Make file) turn (u, shown, id, fresh) =
    let (bytes, staged) = contents_at w h d file ((w.at d).staged file) refl in
    operates w h d quiet (install_step.Make file) turn (u, shown, id, fresh) (cmd.Make file (kind_of u) bytes, (u, bytes, shown_record (IsRecordOf w d) u shown, id, refl), staged)
next_steps w h d quiet (install_step.Rewrite file) turn (f, o, u, at, uid, r, id, is, differs) =
    let (bytes, staged) = contents_at w h d (uid_of d o) ((w.at d).staged (uid_of d o)) refl in
    operates w h d quiet (install_step.Rewrite file) turn (f, o, u, at, uid, r, id, is, differs)
    (cmd.Rewrite f bytes, (f, o, bytes, at, uid, refl), λ q at'. subst (λ z. AreStaged (w.at d) (uid_of d z) bytes) (some_is o q (sym at ∙ at')) staged)
next_steps w h d quiet (install_step.Place file) (park, erase, make, rewrite) (f, o, u, at, uid, limbo, shown, id) =
    operates w h d quiet (install_step.Place file) (park, erase, make, rewrite) (f, o, u, at, uid, limbo, shown, id)
    (by (home (λ z. In z w.all) (IsRecordOf w d) d (w.at d) u (member_at w h d) make shown))
  where
    r : IsRecordOf w d u
    r = shown_record (IsRecordOf w d) u shown

    by : HasHome (IsRecordOf w d) d (w.at d) u → HasOperation w d (install_step.Place file)
    by (inl root) = (cmd.Place f 0 u.name, (f, o, u, 0, at, uid, r, id, inl refl, root, refl), tt)
    by (inr (p, g, q, pid, at', uid', dir, rp)) =
        (cmd.Place f g u.name, (f, o, u, g, at, uid, r, id, inr (q, at'), sym pid ∙ (sym uid' ∙ sym (parent_is d (w.at d).volume g q (h.members d).numbers.root at')), refl), tt)
next_steps w h d quiet (install_step.Unstage file) turn (f, o, at, uid, staged) = (_, (f, o, at, uid, staged, refl))
next_steps w h d quiet (install_step.Skip usn) turn (r, is, at) =
    let (held, is_held) = held_is w.all (w.at d).known r.uid in
    (_, (0, is, quiet, (omega arith, _, (r, held, subst (λ n. (w.at d).volume.entry n ≡ Some r) is at, is_held, refl), refl)))

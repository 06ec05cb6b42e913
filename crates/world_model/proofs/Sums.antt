-- Sums stay those of contents.
use Rattle.std.proofs.Common.{◌≡◌, ℕ, Bool, true, false, List, [], ◌∷◌, length, refl, sym, ap, ◌∙◌, subst, arith, inl, inr, Option, Some, None}
use Rattle.std.specs.Prelude.{option_map, option_to_list}
use Rattle.frs_base.specs.Options.{In}
use Rattle.frs_base.specs.declared.kind.Kind.TheVariants.{File}
use Rattle.win_order.specs.declared.update.Update.{Update}
use Rattle.vol_state.specs.declared.object.Object.{Object}
use Rattle.vol_state.specs.declared.command.VolCmd.{VolCmd}
use Rattle.vol_state.specs.declared.command.VolCmd.TheVariants.{PutNew, PutOver, Mkdir, Move, Remove, Park, Erase, Make, Rewrite, Place}
use Rattle.vol_state.specs.Sums.{content_sum}
use Rattle.vol_state.specs.Effects.{at_place, stamp, with_bytes}
use Rattle.vol_state.specs.Maps.{Maps, changes, with_at, write}
use Rattle.vol_state.specs.Places.{is_directory}
use Rattle.vol_state.specs.Tables.{IsAt, IsLocal, IsReplica}
use Rattle.vol_state.specs.Valid.{IsSummed}
use Rattle.record_db.proofs.Sets.{in_append}
use Rattle.name_rules.specs.Recorded.{base_fence, is_deletion}
use Rattle.name_rules.specs.Tree.{is_file, kind_of}
use Rattle.name_rules.proofs.Cases.{made_by}
use Rattle.world_model.specs.World.{Member, World, with_member}
use Rattle.world_model.specs.Events.{Records, consumed_by, consumes}
use Rattle.world_model.specs.Invariant.{SumsAreOfContents}
use Rattle.world_model.proofs.Changing.{at_each}
use Rattle.world_model.proofs.Facts.{at_case, none_some, some_is, true_false}
use Rattle.world_model.proofs.Installed.{file_kind, file_present}
use Rattle.world_model.proofs.Consumed.{file_sum, kind_kept}

-- each object has the sum of its contents
abbrev pub AreSummed : Maps → Type 0
AreSummed m = (fid : ℕ) (o : Object) → IsAt m fid o → IsSummed o

-- ---- volumes

-- an object with its sum is written, or one goes
written_sums : (m : Maps) (fid : ℕ) (y : Option Object) → ((o : Object) → y ≡ Some o → IsSummed o) → AreSummed m → (g : ℕ) (o : Object) → with_at m.at fid y g ≡ Some o → IsSummed o
written_sums m fid y new h g o at = at_case (IsSummed o) m.at fid y g (Some o) at (λ i k. new o k) (λ i k. h g o k)

-- one is made
made_sums : (m : Maps) (y : Object) → IsSummed y → AreSummed m → (g : ℕ) (o : Object) → with_at m.at m.next_fid (Some y) g ≡ Some o → IsSummed o
made_sums m y new h = written_sums m m.next_fid (Some y) (λ o k. subst IsSummed (some_is y o k) new) h

-- one goes
lost_sums : (m : Maps) (fid : ℕ) → AreSummed m → (g : ℕ) (o : Object) → with_at m.at fid None g ≡ Some o → IsSummed o
lost_sums m fid h = written_sums m fid None (λ o k. absurd (none_some o k)) h

-- one is changed
changed_sums : (own op : ℕ) (local : Bool) (fid : ℕ) (f : Object → Object) (m : Maps) → ((o : Object) → IsAt m fid o → IsSummed o → IsSummed (f o)) → AreSummed m
    → AreSummed (changes own op local fid f m)
changed_sums own op local fid f m keeps h = written_sums m fid (option_map (λ y. stamp local m.next_usn (f y)) (m.at fid)) (λ o k. go (m.at fid) refl o k) h
  where
    stamped : (y : Object) → IsSummed (f y) → IsSummed (stamp local m.next_usn (f y))
    stamped y s = record { sum = s.sum; bare = s.bare }

    go : (found : Option Object) → m.at fid ≡ found → (o : Object) → option_map (λ y. stamp local m.next_usn (f y)) found ≡ Some o → IsSummed o
    go None at o k = absurd (none_some o k)
    go (Some y) at o k = subst IsSummed (some_is (stamp local m.next_usn (f y)) o k) (stamped y (keeps y at (h fid y at)))

-- it gets another place
placed_sums : (own op : ℕ) (local : Bool) (fid : ℕ) (place : Option (ℕ × List ℕ)) (m : Maps) → AreSummed m → AreSummed (changes own op local fid (at_place place) m)
placed_sums own op local fid place m h = changed_sums own op local fid (at_place place) m (λ o at s. record { sum = s.sum; bare = s.bare }) h

-- or other contents, where it is no directory
filled_sums : (own op : ℕ) (local : Bool) (fid : ℕ) (bytes : List ℕ) (o : Object) (m : Maps) → IsAt m fid o → is_directory o.kind ≡ false → AreSummed m
    → AreSummed (changes own op local fid (with_bytes bytes) m)
filled_sums own op local fid bytes o m at file h =
    changed_sums own op local fid (with_bytes bytes) m
    (λ y there s. record { sum = refl; bare = λ is. absurd (true_false (is_directory y.kind) is (ap (λ z. is_directory z.kind) (some_is y o (sym there ∙ at)) ∙ file)) }) h

-- what is as long as nothing is nothing
empty_is : (bytes : List ℕ) → length bytes ≡ 0 → bytes ≡ []
empty_is [] e = refl
empty_is (b ∷ bytes) e = absurd (omega (arith, e))

-- each local operation leaves each object its sum
pub local_sums : (own : ℕ) (op : VolCmd) (m : Maps) → IsLocal m op → AreSummed m → AreSummed (write own op m)
local_sums own (PutNew parent name bytes) m ok h = made_sums m _ (record { sum = refl; bare = λ e. absurd (true_false false e refl) }) h
local_sums own (PutOver fid bytes) m (short, o, at, reached, file) h = filled_sums own 2 true fid bytes o m at file h
local_sums own (Mkdir parent name) m ok h = made_sums m _ (record { sum = refl; bare = λ e. refl }) h
local_sums own (Move fid parent name) m ok h = placed_sums own 4 true fid (Some (parent, name)) m h
local_sums own (Remove fid) m ok h = lost_sums m fid h
local_sums own (Park fid) m ok h = absurd ok
local_sums own (Erase fid) m ok h = absurd ok
local_sums own (Make uid kind bytes) m ok h = absurd ok
local_sums own (Rewrite fid bytes) m ok h = absurd ok
local_sums own (Place fid parent name) m ok h = absurd ok

-- so does each of the installer
pub replica_sums : (own : ℕ) (op : VolCmd) (m : Maps) → IsReplica own m op → AreSummed m → AreSummed (write own op m)
replica_sums own (PutNew parent name bytes) m ok h = absurd ok
replica_sums own (PutOver fid bytes) m ok h = absurd ok
replica_sums own (Mkdir parent name) m ok h = absurd ok
replica_sums own (Move fid parent name) m ok h = absurd ok
replica_sums own (Remove fid) m ok h = absurd ok
replica_sums own (Park fid) m ok h = placed_sums own 6 false fid None m h
replica_sums own (Erase fid) m ok h = lost_sums m fid h
replica_sums own (Make uid kind bytes) m (root, free, bare) h = made_sums m _ (record { sum = refl; bare = λ e. empty_is bytes (bare e) }) h
replica_sums own (Rewrite fid bytes) m (o, at, file) h = filled_sums own 9 false fid bytes o m at file h
replica_sums own (Place fid parent name) m ok h = placed_sums own 10 false fid (Some (parent, name)) m h

-- ---- worlds

-- one member changed, and each of its objects has its sum
pub member_sums : (w : World) (d : ℕ) (x : Member) → SumsAreOfContents w → AreSummed x.volume → SumsAreOfContents (with_member w d x)
member_sums w d x h new = record { objects = at_each (λ j (y : Member). AreSummed y.volume) w.at d x new (λ j n. h.objects j); hashes = h.hashes }

-- the hash of a present file that a journal record makes is its object's sum
made_hash : (w : World) (d moment : ℕ) (u : Update) → SumsAreOfContents w → Records w d moment (Some u) → is_file u ≡ true → (bytes : List ℕ) × (content_sum File bytes ≡ u.hash)
made_hash w d moment u h (e, held, at, is_held, is) file =
    elim (made_by d (w.at d).volume (base_fence (w.at d).phase (w.at d).kind) (w.at d).consumed moment e.local (is_deletion e) held ((w.at d).volume.at e.fid) u is).1 [
      | inl gone ↦ absurd (true_false u.present (file_present u file) (ap (λ z. z.present) gone.is))
      | inr y ↦
          let kind = ap kind_of y.is ∙ kind_kept d (w.at d).volume (base_fence (w.at d).phase (w.at d).kind) (w.at d).consumed moment held y.now y.place in
          let hash = file_sum u y.now.kind y.now.sum file kind (ap (λ z. z.hash) y.is) in
          (y.now.bytes, ap (λ k. content_sum k y.now.bytes) (sym (file_kind u file) ∙ kind) ∙ (sym (h.objects d e.fid y.now y.there).sum ∙ sym hash))
    ]

-- a journal record is consumed
pub consume_sums : (w : World) (d moment : ℕ) (made : Option Update) → SumsAreOfContents w → Records w d moment made → SumsAreOfContents (consumes w d made)
consume_sums w d moment made h r = record {
  objects = at_each (λ j (y : Member). AreSummed y.volume) w.at d (consumed_by d made (w.at d)) (h.objects d) (λ j n. h.objects j);
  hashes = λ u a. elim (in_append u w.all (option_to_list made) a) [ inl old ↦ h.hashes u old | inr new ↦ by made r u new ];
}
  where
    by : (made : Option Update) → Records w d moment made → (u : Update) → In u (option_to_list made) → is_file u ≡ true → (bytes : List ℕ) × (content_sum File bytes ≡ u.hash)
    by None r u a = absurd a
    by (Some x) r u (inr a) = absurd a
    by (Some x) r u (inl same) = subst (λ (z : Update). is_file z ≡ true → (bytes : List ℕ) × (content_sum File bytes ≡ z.hash)) (sym same) (made_hash w d moment x h r)

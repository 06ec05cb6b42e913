-- A world in which nothing happened.
use Rattle.std.proofs.Common.{false, refl, arith}
use Rattle.world_model.specs.Laws.{FreshWorldsAreSound}
use Rattle.world_model.proofs.Facts.{none_some, true_false}

pub fresh_sound : FreshWorldsAreSound
fresh_sound kinds = record {
  versions = record {
    begun = λ d. omega arith;
    one_each = λ u v a b s. absurd a;
    recorded = λ u a. absurd a;
    known = λ d g t. absurd (true_false false t refl);
    sent = λ s g a t. absurd a;
    own = λ g k. let low = k.0 in let high = k.1 in absurd (omega (arith, low, high));
  };
  sent = record { vectors = λ s g a t. absurd a; updates = λ s a. absurd a };
  members = λ d. record {
    places = record {
      leads = λ f o a. absurd (none_some o a);
      apart = λ f g o q p r a b c e s k. absurd (none_some o a);
      uids = λ f g o q a b e. absurd (none_some o a);
      parents = λ f o p a c. absurd (none_some o a);
    };
    numbers = record {
      root = refl;
      next = omega arith;
      fids = λ f o a. absurd (none_some o a);
      named = λ n r a. absurd (none_some r a);
      born = λ f o a. absurd (none_some o a);
      last = λ f o a. absurd (none_some o a);
      first = λ f o a t. absurd (none_some o a);
      entries = λ n r a. absurd (none_some r a);
      consumed_is = omega arith;
      whole = λ n low high. absurd (omega (arith, low, high));
    };
    journal = record {
      later = λ f o n r a l b t s. absurd (none_some o a);
      last = λ f o a l. absurd (none_some o a);
      named = λ n r o l b t a. absurd (none_some o a);
      gone = λ n r l b t k a. absurd (none_some r b);
    };
    objects = record {
      recorded = λ f o a. absurd (none_some o a);
      reached = λ f o a p. absurd (none_some o a);
      kinds = λ f o u a b k. absurd b;
      tagged = λ f o t a k. absurd (none_some o a);
      no_root = λ f o a. absurd (none_some o a);
    };
    contents = record { keeps = λ u r i. absurd r.among.0; staged = λ uid sum k. absurd (none_some sum k) };
  };
  files = record { kinds = λ u v a b k. absurd a; made = λ u a. absurd a; no_root = λ u a. absurd a };
  clocks = record { fences = λ u a. absurd a; clocks = λ u a. absurd a };
  sums = record { objects = λ d f o a. absurd (none_some o a); hashes = λ u a i. absurd a };
}

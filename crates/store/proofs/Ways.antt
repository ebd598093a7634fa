-- A climb by the iterator `Way`, said of the store and the end that it was begun with. Assumes nothing.
use Rattle.std.proofs.Common.{◌≡◌, ◌≢◌, ℕ, List, sym, ◌∙◌, Some, None}
use Rattle.layout.specs.View.{view}
use Rattle.layout.specs.Sound.{Whole}
use Rattle.layout.specs.Made.{IsMade}
use Rattle.layout.specs.Legs.{place_of}
use Rattle.layout.specs.Routes.{OnWay, Over}
use Rattle.store.specs.declared.path.Way.{Way}
use Rattle.store.specs.Climbs.{Climbs, Gives}

module _ (s : List ℕ) (m : ℕ) (w : Way) (same : w.s.now ≡ s) (end : w.end ≡ m) where
  pub started : (f : ℕ) → w.at ≡ f → Whole s → IsMade s f → OnWay s m → Over (view s).tree m f → Climbs w
  started f from ok made way over = rw (same, from, end) (ok, (made, (way, over)))

  -- where n was given, it has gone from w to v
  pub record Gone (v : Way) (n : ℕ) : Type 0 where
    pub here : n ≡ w.at
    pub short : w.at ≢ m
    pub up : v.at ≡ place_of s w.at
    pub still : v.s.now ≡ s
    pub stays : v.end ≡ m

  pub gone : (v : Way) (n : ℕ) → Gives w (Some n) v → Gone v n
  gone v n (still, stays, (here, short, up)) = record {
    here = here;
    short = λ e. short (here ∙ e ∙ sym end);
    up = rw (same, here) at up;
    still = still ∙ same;
    stays = stays ∙ end;
  }

  pub arrived : (v : Way) → Gives w None v → w.at ≡ m
  arrived v (still, stays, there) = there ∙ end

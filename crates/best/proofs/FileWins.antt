-- The wins by the counts of a file: the best and the full order by them are those of its ballots.
use Rattle.std.proofs.Common.{◌≡◌, ℕ, ◌<◌, Bool, true, List, None, sym}
use Rattle.std.proofs.lemmas.Bool.Decides.{Decides-like}
use Rattle.ballots.specs.Format.{candidates_in, ballots_of}
use Rattle.ballots.specs.Ballots.{unranked}
use Rattle.ballots.specs.Refusals.{refusal}
use Rattle.pairwise.specs.Counts.{win_by, win}
use Rattle.pairwise.specs.Pairwise.{counts_of}
use Rattle.pairwise.proofs.Wins.{win-counts_of}
use Rattle.paths.specs.Paths.{below}
use Rattle.paths.proofs.Walks.{below_in, rewin}
use Rattle.best.specs.Answers.{BestOf}
use Rattle.best.specs.declared.order.Order.{Order}
use Rattle.best.specs.Best.{Ahead, Best}
use Rattle.best.specs.Comparisons.{BestSet}
use Rattle.best.specs.Order.{row_of, OrderOf}
use Rattle.best.proofs.Places.{full_like}

-- where the wins among those that stand are the same, so are the best, and who is ahead
best_rewin :
    {w u : ℕ → ℕ → ℕ} {here : ℕ → Bool} {x : ℕ} → ((a b : ℕ) → here a ≡ true → here b ≡ true → u a b ≡ w a b) →
    Best w here x → Best u here x
best_rewin f (hx, b) = (hx, λ y m pos p. rewin f (b y m pos (rewin (λ a c ha hc. sym (f a c ha hc)) p)))

ahead_rewin :
    {w u : ℕ → ℕ → ℕ} {here : ℕ → Bool} {x y : ℕ} → ((a b : ℕ) → here a ≡ true → here b ≡ true → u a b ≡ w a b) →
    Ahead w here x y → Ahead u here x y
ahead_rewin f (m, pos, p, np) = (m, pos, rewin f p, λ q. np (rewin (λ a c ha hc. sym (f a c ha hc)) q))

module _ (bs : List ℕ) where
  same : (x y : ℕ) → below (candidates_in bs) x ≡ true → below (candidates_in bs) y ≡ true →
      win unranked (ballots_of bs) x y ≡ win_by (counts_of bs) x y
  same x y hx hy = sym (win-counts_of bs x y (below_in _ x hx) (below_in _ y hy))

  back : (x y : ℕ) → below (candidates_in bs) x ≡ true → below (candidates_in bs) y ≡ true →
      win_by (counts_of bs) x y ≡ win unranked (ballots_of bs) x y
  back x y hx hy = sym (same x y hx hy)

  pub best_of_wins : {s : ℕ} → refusal bs ≡ None → BestSet (win_by (counts_of bs)) (candidates_in bs) s → BestOf bs s
  best_of_wins none b = record {
    accepted = none;
    best = record {
      within = b.within;
      each = λ x xv. Decides-like _ (best_rewin same) (best_rewin back) (b.each x xv);
    };
  }

  -- by any tie-break order that says the same of the candidates
  pub order_of_wins : {o : Order} (before after : ℕ → ℕ → Bool) →
      ((x y : ℕ) → x < candidates_in bs → y < candidates_in bs → before x y ≡ after x y) →
      OrderOf (win_by (counts_of bs)) (candidates_in bs) before o →
      OrderOf (win unranked (ballots_of bs)) (candidates_in bs) after o
  order_of_wins {o} before after e r = record {
    candidates = r.candidates;
    once = r.once;
    row = full_like _ _ before after (λ x y. ahead_rewin same) (λ x y. ahead_rewin back)
        (below (candidates_in bs)) (row_of o) (λ x y hx hy. e x y (below_in _ x hx) (below_in _ y hy)) r.row;
    behind = r.behind;
  }

-- Candidates of a set k that win and lose alike against all others: some of them may stand in place of others of them.
use Rattle.std.proofs.Common.{◌≡◌, ℕ, ◌<◌, Bool, true, false, cond, ◌&&◌, ◌⊎◌, sym, inl, inr, arith}
use Rattle.std.proofs.lemmas.Bool.{cases_Bool, both_ways, and_parts, and_from}
use Rattle.std.proofs.lemmas.Bool.Decides.{nat_tests}
use Rattle.paths.specs.Paths.{Within, Path, step, on}
use Rattle.paths.proofs.Walks.{starts, ends}
use Rattle.paths.proofs.Via.{strength_path, path_strength}
use Rattle.best.specs.Best.{Best, BestIn}
use Rattle.best.specs.Laws.{WinAlike, Exchanges, CloneExchange, with_only, CloneIndependence}
use Rattle.best.proofs.Maximal.{maximal}

-- every candidate of k as the one candidate c
abbrev as_one : (ℕ → Bool) → ℕ → ℕ → ℕ
as_one k c x = cond (k x) c x

as_in : (k : ℕ → Bool) (c x : ℕ) → k x ≡ true → as_one k c x ≡ c
as_in k c x e = rw e

as_out : (k : ℕ → Bool) (c x : ℕ) → k x ≡ false → as_one k c x ≡ x
as_out k c x e = rw e

as_same : (k : ℕ → Bool) (c x y : ℕ) → k x ≡ true → k y ≡ true → as_one k c x ≡ as_one k c y
as_same k c x y e f = rw (e, f)

-- paths among the candidates here, as paths among those there: c, of k and there, stands for all of k
module _
    (w : ℕ → ℕ → ℕ) (v : ℕ) (k here there : ℕ → Bool) (here_in : Within here v) (there_in : Within there v)
    (alike : WinAlike w v k) (same : (z : ℕ) → k z ≡ false → there z ≡ here z)
    (c : ℕ) (kc : k c ≡ true) (hc : there c ≡ true) where
  stands : (z : ℕ) → here z ≡ true → there (as_one k c z) ≡ true
  stands z h =
      elim (cases_Bool (k z)) [ inl e ↦ rw (as_in k c z e) hc | inr e ↦ rw (as_out k c z e) (rw (same z e) h) ]

  -- a win stays as it is, or is between two of k
  move_win : (x y : ℕ) → x < v → y < v → ((k x ≡ true) × (k y ≡ true)) ⊎ (w x y ≡ w (as_one k c x) (as_one k c y))
  move_win x y hx hy = grind (arith, alike x c y hx (there_in c hc) hy, alike y c x hy (there_in c hc) hx)

  -- so a path stays one, or is between two of k
  move : {m x y : ℕ} → Path w here m x y → ((k x ≡ true) × (k y ≡ true)) ⊎ Path w there m (as_one k c x) (as_one k c y)
  move (step {x = x} {y = y} hx hy h) = elim (move_win x y (here_in x hx) (here_in y hy))
      [ inl b ↦ inl b | inr e ↦ inr (step (stands x hx) (stands y hy) (rw e at h)) ]
  move (on {x = x} {y = y} {z = z} p hz h) = elim (move_win y z (here_in y (ends p)) (here_in z hz)) [
    | inl d ↦ elim (move p) [
      | inl b ↦ inl (b.0, d.1)
      | inr q ↦ inr (rw (as_same k c z y d.1 d.0) q)
    ]
    | inr e ↦ elim (move p) [
      | inl b ↦ inr (step (stands x (starts p)) (stands z hz) (rw (as_same k c x y b.0 b.1) (rw e at h)))
      | inr q ↦ inr (on q (stands z hz) (rw e at h))
    ]
  ]

  -- by where its ends are
  move_in : {m x y : ℕ} → k x ≡ false → k y ≡ true → Path w here m x y → Path w there m x c
  move_in {x = x} {y = y} e f p = elim (move p)
      [ inl b ↦ absurd (both_ways (k x) e b.0) | inr q ↦ rw (as_out k c x e, as_in k c y f) at q ]

  move_out : {m x y : ℕ} → k x ≡ true → k y ≡ false → Path w here m x y → Path w there m c y
  move_out {x = x} {y = y} e f p = elim (move p)
      [ inl b ↦ absurd (both_ways (k y) f b.1) | inr q ↦ rw (as_in k c x e, as_out k c y f) at q ]

  move_outside : {m x y : ℕ} → k x ≡ false → k y ≡ false → Path w here m x y → Path w there m x y
  move_outside {x = x} {y = y} e f p = elim (move p)
      [ inl b ↦ absurd (both_ways (k y) f b.1) | inr q ↦ rw (as_out k c x e, as_out k c y f) at q ]

module _
    (w : ℕ → ℕ → ℕ) (v : ℕ) (k here there : ℕ → Bool) (here_in : Within here v) (there_in : Within there v)
    (alike : WinAlike w v k) (e : Exchanges k here there) where
  back : (z : ℕ) → k z ≡ false → here z ≡ there z
  back z kz = sym (e.others z kz)

  -- whoever is not of k and among the best here is so there
  others_stay : (y : ℕ) → k y ≡ false → Best w here y → Best w there y
  others_stay y ky (hy, b) =
      let (a, ka, ha) = e.some_here in
      let (c, kc, hc) = e.some_there in (
        rw (e.others y ky) hy,
        λ z m pos p. elim (cases_Bool (k z)) [
          | inl kz ↦ move_in w v k here there here_in there_in alike e.others z kz (starts p) ky ka
              (b a m pos (move_out w v k there here there_in here_in alike back a ka ha kz ky p))
          | inr kz ↦ move_outside w v k here there here_in there_in alike e.others c kc hc ky kz
              (b z m pos (move_outside w v k there here there_in here_in alike back a ka ha kz ky p))
        ],
      )

  -- where one of k is among the best here, one of k is there: the maximal one of them
  members_stay : BestIn w here k → BestIn w there k
  members_stay (x, kx, (hx, b)) =
      let (c, kc, hc) = e.some_there in
      let (z, hkz, f) = maximal w there v there_in (λ z. there z && k z) (λ z h. (and_parts (there z) (k z) h).0)
      c (and_from (there c) (k c) hc kc) v in
      let (hz, kz) = and_parts (there z) (k z) hkz in (
        z,
        kz,
        (
          hz,
          λ y m pos p. elim (cases_Bool (k y)) [
            | inl ky ↦ strength_path w there m v z y hz (starts p)
                (omega (arith, path_strength w there v there_in p, f y (there_in y (starts p)) (and_from (there y) (k y) (starts p) ky)))
            | inr ky ↦ move_out w v k here there here_in there_in alike e.others z kz hz kx ky
                (b y m pos (move_in w v k there here there_in here_in alike back x kx hx ky kz p))
          ],
        ),
      )

pub clone_exchange : CloneExchange
clone_exchange w v k here there here_in there_in e alike =
    let e_back : Exchanges k there here = record {
      others = λ z kz. sym (e.others z kz);
      some_here = e.some_there;
      some_there = e.some_here;
    } in
    record {
      others = λ y ky. (
        others_stay w v k here there here_in there_in alike e y ky,
        others_stay w v k there here there_in here_in alike e_back y ky,
      );
      members = (
        members_stay w v k here there here_in there_in alike e,
        members_stay w v k there here there_in here_in alike e_back,
      );
    }

-- who stands where of k only a does
module _ (k : ℕ → Bool) (a : ℕ) (here : ℕ → Bool) where
  only_here : (x : ℕ) → with_only k a here x ≡ true → here x ≡ true
  unfolding with_only
  only_here x h = grind (arith, nat_tests)

  pub only_is : (x : ℕ) → with_only k a here x ≡ true → k x ≡ true → x ≡ a
  unfolding with_only
  only_is x h e = grind (arith, nat_tests)

  pub only_outside : (x : ℕ) → k x ≡ false → with_only k a here x ≡ here x
  unfolding with_only
  only_outside x e = grind (arith, nat_tests)

  pub only_self : k a ≡ true → here a ≡ true → with_only k a here a ≡ true
  unfolding with_only
  only_self e h = grind (arith, nat_tests)

pub clone_independence : CloneIndependence
clone_independence w v k here a here_in ha ka alike =
    let e : Exchanges k here (with_only k a here) = record {
      others = only_outside k a here;
      some_here = (a, ka, ha);
      some_there = (a, ka, only_self k a here ka ha);
    } in
    let s = clone_exchange w v k here (with_only k a here) here_in (λ z h. here_in z (only_here k a here z h)) e alike in
    record {
      others = s.others;
      members = (
        (λ b. let (z, kz, bz) = s.members.0 b in rw (only_is k a here z bz.0 kz) at bz),
        λ b. s.members.1 (a, ka, b),
      );
    }

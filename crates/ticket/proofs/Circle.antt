-- Differences round the circle. `behind a b` is the one number below 65,536 that leads from b to a.
use Rattle.std.proofs.Common.{◌≡◌, ℕ, ◌+◌, ◌-◌, ◌%◌, ◌<◌, sym, ap, ◌∙◌, arith}
use Rattle.ticket.specs.Order.{circle, behind}

pub behind_below : (a b : ℕ) → behind a b < circle
unfolding behind
behind_below a b = omega arith

pub behind_leads : (a b : ℕ) → (behind a b + b) % circle ≡ a % circle
unfolding behind
behind_leads a b = omega arith

pub behind_only : (a b d : ℕ) → d < circle → (d + b) % circle ≡ a % circle → d ≡ behind a b
unfolding behind
behind_only a b d small leads = omega arith

-- a sum's parts may be cut to width first
cut_left : (x y : ℕ) → (x % circle + y) % circle ≡ (x + y) % circle
cut_left x y = omega arith

across : (a b t u : ℕ) → b < circle → (a + u) % circle ≡ (b + t) % circle → ((a + (circle - b)) + u) % circle ≡ t % circle
across a b t u small same = omega arith

-- by way of a third: from u to t is from u to n, less from t to n
pub behind_by : (n t u : ℕ) → behind t u ≡ (behind n u + (circle - behind n t)) % circle
behind_by n t u =
    let x : ℕ = behind n u + (circle - behind n t) in
    sym (behind_only t u (x % circle) (omega arith)
    (cut_left x u ∙ across (behind n u) (behind n t) t u (behind_below n t) (behind_leads n u ∙ sym (behind_leads n t))))

pub behind_self : (t : ℕ) → behind t t ≡ 0
unfolding behind
behind_self t = omega arith

-- the way back is the rest of the circle
pub behind_back : (a b : ℕ) → 0 < behind a b → behind b a ≡ circle - behind a b
behind_back a b some = omega (arith, behind_by a b a, behind_self a)

-- distances from one place tell tickets apart
pub behind_cancel : (n t u : ℕ) → t < circle → u < circle → behind n t ≡ behind n u → t ≡ u
behind_cancel n t u small small' e = same_sum (behind n u) t u small small' (ap (λ (d : ℕ). (d + t) % circle) (sym e) ∙ behind_leads n t ∙ sym (behind_leads n u))
  where
    same_sum : (d t u : ℕ) → t < circle → u < circle → (d + t) % circle ≡ (d + u) % circle → t ≡ u
    same_sum d t u small small' e = omega arith

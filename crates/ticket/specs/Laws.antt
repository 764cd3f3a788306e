-- Shown: what the order of tickets is said to be. On a set of tickets the comparison is a strict total order.
use Rattle.std.specs.Prelude.{◌≡◌, ℕ, ◌⊎◌, ◌≢◌}
use Rattle.ticket.specs.Order.{compare}
use Rattle.ticket.specs.declared.order.Comparison.TheVariants.{Older, Younger, Same}

-- S says which tickets belong to the set
pub record StrictTotal (S : ℕ → Type 0) : Type 0 where
  pub irreflexive : (t : ℕ) → S t → compare t t ≡ Same
  pub asymmetric : (t u : ℕ) → S t → S u → compare t u ≡ Older → compare u t ≡ Younger
  pub transitive : (t u v : ℕ) → S t → S u → S v → compare t u ≡ Older → compare u v ≡ Older → compare t v ≡ Older
  pub total : (t u : ℕ) → S t → S u → (t ≢ u) → (compare t u ≡ Older) ⊎ (compare t u ≡ Younger)

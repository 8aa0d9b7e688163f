-- Walks in a graph.

-- one step or more
pub data Plus {V : Type 0} (E : V → V → Type 0) : V → V → Type 0 where
  step : {a b : V} → E a b → Plus E a b
  more : {a b c : V} → E a b → Plus E b c → Plus E a c

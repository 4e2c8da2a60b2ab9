-- What makes up a kind of record: its monoid, and how a record lies in memory. The laws are those of the trait `Record`.
-- Assumes nothing.

-- K is the type of the records, R that of the plain rows in memory.
pub record Kind (K R : Type 0) : Type 0 where
  -- the record of nothing
  pub blank : K
  -- the record of two neighbours, the left one first
  pub joined : K → K → K
  -- the row that a record is kept as
  pub written : K → R
  -- the record that a row stands for
  pub read : R → K

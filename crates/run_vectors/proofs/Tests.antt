-- The search of a need that also turns comparisons into tests. Assumes nothing.
use borrow.Author.Needs.{needs}
use borrow.Author.Tests.{lt-ltb, le-ltb, le-leb, lt-leb, eq-eqb, ne-eqb}

pub ruleset tests = (needs, lt-ltb, le-ltb, le-leb, lt-leb, eq-eqb, ne-eqb)

-- `put_page` meets its contract. Assumes nothing.
use Rattle.page_calls.specs.Calls.{lengths_of}
use Rattle.page_calls.proofs.Copies.{Copied}
use Rattle.page_calls.proofs.numbers.put_page.Given as goal

abbrev pub invariant-loop-k : goal.invariant-loop-k
invariant-loop-k l = Copied (lengths_of l.page) l.initial.numbers 2 l.k l.numbers

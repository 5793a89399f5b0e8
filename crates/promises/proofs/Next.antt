-- Who is next: the look answers as an arbitration does. Assumes nothing.
use borrow.Author.Tests.{ne_eqb}
use Rattle.arbiter.proofs.Next as looked
use Rattle.arbiter.specs.Next.{next_refusal, next_by}
use Rattle.promises.specs.Next.{NextWins, NextFromAny, OnlyRobin}

pub next_wins : NextWins
next_wins = looked.next_wins

pub next_from_any : NextFromAny
next_from_any = looked.next_from_any

pub only_robin : OnlyRobin
unfolding next_by next_refusal
only_robin s formed other = rw (formed, ne_eqb s.table.rule 1 other)

-- Each public contract of this crate admits one result. Assumes nothing.
use mathlib.Core.Path.{refl}
use Rattle.cardfile.proofs as cardfile
use Rattle.cardfile.proofs.Laws.{one_loaded}
use Rattle.cardfile.specs.contracts as contracts
use Rattle.one_result.proofs.Laws.{one_result}
use Rattle.one_result.specs.Determined.{Determined}

pub word_determined : Determined contracts.word.ended cardfile.word.Reads.Learnt
word_determined κ a x y b c p q = (one_result p q, refl)

pub load_table_determined : Determined contracts.load_table.ended cardfile.load_table.Reads.Learnt
load_table_determined κ a x y b c p q = (one_loaded x y (one_result p q), refl)

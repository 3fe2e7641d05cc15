use Rattle.draw_model.specs.Content.{number_of}
use Rattle.base_words.specs.Words.{at}
use borrow.Author.Rules.{rules}
use Rattle.draw_model.proofs.number_of.Goals as goal

pub count_pools-requires : goal.count_pools-requires
unfolding number_of
count_pools-requires c = search rules

pub next_number-requires : goal.next_number-requires
unfolding number_of
next_number-requires c = search rules

pub returns : goal.returns
unfolding number_of
returns c = rw c.count_pools.ensures at c.next_number.ensures

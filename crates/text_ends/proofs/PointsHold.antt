-- Every point comes out: what the definitions find, computed, is what is due. Assumes nothing.
use mathlib.Core.Path.{refl}
use Rattle.base_words.specs.Each.{total, each, tab}
use Rattle.base_words.specs.Iter.{iter}
use Rattle.base_words.specs.Pick.{if◌then◌or_else◌}
use Rattle.base_words.specs.Sum.{sum}
use Rattle.base_words.specs.Writes.{writes}
use Rattle.text_ends.specs.Rewriting.{is_end_snd, times_in, mentioned, is_unused, first_from, lowest_unused, with_one, sending_to, end_of, first_end, treated, end_sends, all_treated, unused_count, room_for}
use Rattle.text_ends.specs.Points.{points, places, AllBecome, AllHave}

pub all_become : AllBecome points
unfolding total each iter if◌then◌or_else◌ sum is_end_snd times_in mentioned is_unused first_from lowest_unused with_one sending_to end_of first_end treated end_sends all_treated
all_become = (refl, (refl, (refl, (refl, (refl, tt)))))

pub all_have : AllHave places
unfolding total each tab sum writes is_end_snd times_in mentioned is_unused end_sends unused_count room_for
all_have = (refl, (refl, (refl, (refl, (refl, (refl, tt))))))

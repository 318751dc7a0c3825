-- The examples come out as the item says: the definition is computed.
use mathlib.Core.Path.{refl}
use Rattle.model.proofs.Open.{everything}
use Rattle.recording.specs.Recording.{recorded_values, not_run}
use Rattle.recording.specs.Replay.{first_records, whole_records, records_of, rest_of, compared, play, how_many, first_of, differing, line, replayed}
use Rattle.recording.specs.Blocks.{counted, all_counted, fed, all_fed}
use Rattle.recording.specs.Examples.{Examples}

pub examples : Examples
unfolding everything recorded_values not_run first_records whole_records records_of rest_of compared play how_many first_of differing line replayed counted all_counted fed all_fed
examples = record {
  empty_file = refl;
  three_records = refl;
  tail_behind_a_record = refl;
  tail_alone = refl;
  flag_in_a_tick = refl;
  flag_keeps_the_state = refl;
  known_flags_in_a_tick = refl;
  attribute_256 = refl;
  wait_with_a_word = refl;
  wait_without_one = refl;
  in_blocks = refl;
}

-- Every case of the table of refusals holds of the written rules, by computation. Assumes nothing.
use mathlib.Core.Path.{refl}
use Rattle.lists.specs.Fold.{fold_below, all_below}
use Rattle.lists.specs.Tests.{count_of, all_of}
use Rattle.packet.specs.Reading.{broken, fragment, tcp_malformed, udp_malformed, read_packet}
use Rattle.scheduler.specs.Ring.{ring_from}
use Rattle.scheduler.specs.Weights.{euclid, gcd_of}
use Rattle.table.specs.Slots.{slots, words}
use Rattle.table.specs.Find.{first_from}
use Rattle.table.specs.Expire.{cleared, lowered_by}
use Rattle.table.specs.Sound.{counts_are}
use Rattle.director.specs.Judge.{settings_judged, parts_sound, sound_of}
use Rattle.director.specs.Setup.{setup_of}
use Rattle.director.specs.Control.{number_judged, weight_of, count_call_of}
use Rattle.director.specs.Tick.{tick_of}
use Rattle.director.specs.Segment.{segment_read}
use Rattle.director.specs.Decide.{decided}
use Rattle.director.specs.Packets.{routed, packet_held, packet_of}
use Rattle.audit.specs.Refusals.{Refusals}

pub refusals : Refusals
unfolding fold_below all_below count_of all_of broken fragment tcp_malformed udp_malformed read_packet ring_from euclid gcd_of slots words first_from cleared lowered_by counts_are settings_judged parts_sound sound_of setup_of number_judged weight_of count_call_of tick_of segment_read decided routed packet_held packet_of
refusals = record {
  setup = refl;
  number = refl;
  header = refl;
  length = refl;
  checksum = refl;
  fragment = refl;
  protocol = refl;
  transport = refl;
  endpoint = refl;
  clock = refl;
  opening = refl;
  belonging = refl;
  idle = refl;
  full = refl;
  weight = refl;
  settings = refl;
  slot = refl;
  walk = refl;
  held = refl;
  call = refl;
  setup_order = refl;
  call_order = refl;
}

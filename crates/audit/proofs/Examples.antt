-- P1 to P11 hold of the written rules, by computation. Assumes nothing.
use mathlib.Core.Path.{refl}
use Rattle.lists.specs.Fold.{fold_below, all_below}
use Rattle.lists.specs.Tests.{count_of, all_of}
use Rattle.checksum.specs.Ones.{edited}
use Rattle.packet.specs.Reading.{broken, fragment, tcp_malformed, read_packet}
use Rattle.packet.specs.Redirect.{header_edited, sum_written, transport_edited, redirected}
use Rattle.scheduler.specs.Ring.{ring_from}
use Rattle.scheduler.specs.Weights.{euclid, gcd_of}
use Rattle.table.specs.Slots.{slots, words}
use Rattle.table.specs.Find.{first_from}
use Rattle.table.specs.Expire.{cleared, lowered_by}
use Rattle.table.specs.Sound.{counts_are}
use Rattle.director.specs.Judge.{settings_judged, parts_sound, sound_of}
use Rattle.director.specs.Control.{number_judged, weight_of}
use Rattle.director.specs.Tick.{tick_of}
use Rattle.director.specs.Segment.{segment_read}
use Rattle.director.specs.Decide.{decided}
use Rattle.director.specs.Packets.{routed, packet_held, packet_of}
use Rattle.audit.specs.Examples.{picks, Examples}

pub examples : Examples
unfolding picks fold_below all_below count_of all_of edited broken fragment tcp_malformed read_packet header_edited sum_written transport_edited redirected ring_from euclid gcd_of slots words first_from cleared lowered_by counts_are settings_judged parts_sound sound_of number_judged weight_of tick_of segment_read decided routed packet_held packet_of
examples = refl

-- The book notes what is printed, by computation. Assumes nothing.
use mathlib.Core.Path.{refl}
use Rattle.lists.specs.Fold.{fold_below, all_below}
use Rattle.lists.specs.Tests.{keep}
use Rattle.packet.specs.Reading.{broken, fragment, tcp_malformed, udp_malformed, read_packet}
use Rattle.director.specs.Segment.{segment_read}
use Rattle.audit.specs.Book.{Book}
use Rattle.audit.specs.BookCases.{Notes}

pub notes : (b : Book) → Notes b
unfolding fold_below all_below keep broken fragment tcp_malformed udp_malformed read_packet segment_read
notes b = record { opened = refl; others = refl }

use Rattle.std.proofs.Common.{◌-◌}
use Rattle.spec.specs.Fields.{big_endian}
use Rattle.spec.specs.Classes.{class_array}
use Rattle.layout.specs.Listing.{listed}
use Rattle.layout.proofs.Places.{Midway}
use Rattle.layout.proofs.Listing.{Onward}
use Rattle.layout.proofs.ClassArrays.{classes_from}
use Rattle.layout.proofs.glyph_class.write_array.Given as goal

abbrev pub invariant-loop-glyph : goal.invariant-loop-glyph
invariant-loop-glyph l = Midway l.initial.out l.out (classes_from (listed l.classes) l.glyph (l.glyph-end - l.glyph)) (big_endian (class_array (listed l.classes)))
    × Onward (listed l.classes) (listed l.left) l.glyph

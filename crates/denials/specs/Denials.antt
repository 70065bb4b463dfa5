-- Which word, part and denial of the definitions each value of the code is.
use Rattle.std.specs.Prelude.{ℕ, List, ◌++◌, codes}
use Rattle.std.specs.Fmt.{decimal}
use Rattle.spec.specs.Denials.{Word, Part, Denial, number, text, part_text}
use Rattle.denials.specs.declared.denial.Word as code_word
use Rattle.denials.specs.declared.denial.Part as code_part
use Rattle.denials.specs.declared.denial.Denial as code_denial
use Rattle.denials.specs.declared.denial.Word.TheVariants.{BadSet, BadDevice, BadDeltas, UnknownEntry, Full, NoSection, BadFlags, StoreFull, TooMany, TooFar, ShortOutput, BrokenTable, UnknownId}
use Rattle.denials.specs.declared.denial.Part.TheVariants.{Sets, Devices, Deltas, Rules, Lookup, Store, Writer, Reader}

abbrev pub word_of : code_word.Word → Word
word_of BadSet = Word.bad_set
word_of BadDevice = Word.bad_device
word_of BadDeltas = Word.bad_deltas
word_of UnknownEntry = Word.unknown_entry
word_of Full = Word.full
word_of NoSection = Word.no_section
word_of BadFlags = Word.bad_flags
word_of StoreFull = Word.store_full
word_of TooMany = Word.too_many
word_of TooFar = Word.too_far
word_of ShortOutput = Word.short_output
word_of BrokenTable = Word.broken_table
word_of UnknownId = Word.unknown_id

abbrev pub part_of : code_part.Part → Part
part_of Sets = Part.sets
part_of Devices = Part.devices
part_of Deltas = Part.deltas
part_of Rules = Part.rules
part_of Lookup = Part.lookup
part_of Store = Part.store
part_of Writer = Part.writer
part_of Reader = Part.reader

abbrev pub denial_of : code_denial.Denial → Denial
denial_of d = record { word = word_of d.word; place = d.place; part = part_of d.part; depth = d.depth }

-- as it is printed: the number of the word, the word, the place, the part and the depth
abbrev pub shown : code_denial.Denial → List ℕ
shown d =
    decimal (number (word_of d.word)) ++ codes " " ++ text (word_of d.word)
    ++ codes " place " ++ decimal d.place ++ codes " part " ++ part_text (part_of d.part) ++ codes " depth " ++ decimal d.depth

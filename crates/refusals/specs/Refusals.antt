-- Refusals of flow files by their numbers, lines, readers and words. Assumes nothing.
--     fault_number k        the number of a line's fault
--     fault_reader k        the reader that finds it
--     number_of r           the number of a refusal
--     line_of r             its line, counted from 1; 0 where the whole file is refused
--     reader_of r           the reader that found it
--     reader_text r         the word of a reader
--     reason_of k           the fault k in words
--     refusal_of f          the refusal that a fault of the form reader is
use Rattle.std.specs.Prelude.{List, ℕ, codes}
use Rattle.forms.specs.declared.line.FormFault.{FormFault}
use Rattle.forms.specs.declared.line.FormFault.TheVariants as form
use Rattle.refusals.specs.declared.refusal.Fault.{Fault}
use Rattle.refusals.specs.declared.refusal.Fault.TheVariants.{Byte, Shape, Name, Twice, Undeclared, TooMany}
use Rattle.refusals.specs.declared.refusal.Reader.{Reader}
use Rattle.refusals.specs.declared.refusal.Reader.TheVariants as reader
use Rattle.refusals.specs.declared.refusal.Refusal.{Refusal}
use Rattle.refusals.specs.declared.refusal.Refusal.TheVariants.{TooLong, Line}

abbrev pub fault_number : Fault → ℕ
fault_number Byte = 2
fault_number Shape = 3
fault_number Name = 4
fault_number Twice = 5
fault_number Undeclared = 6
fault_number TooMany = 7

abbrev pub fault_reader : Fault → Reader
fault_reader Byte = reader.Bytes
fault_reader Shape = reader.Forms
fault_reader Name = reader.Flow
fault_reader Twice = reader.Flow
fault_reader Undeclared = reader.Flow
fault_reader TooMany = reader.Flow

abbrev pub number_of : Refusal → ℕ
number_of TooLong = 1
number_of (Line n k) = fault_number k

abbrev pub line_of : Refusal → ℕ
line_of TooLong = 0
line_of (Line n k) = n

abbrev pub reader_of : Refusal → Reader
reader_of TooLong = reader.Flow
reader_of (Line n k) = fault_reader k

abbrev pub reader_text : Reader → List ℕ
reader_text reader.Bytes = codes "bytes"
reader_text reader.Forms = codes "forms"
reader_text reader.Flow = codes "flow"

abbrev pub reason_of : Fault → List ℕ
reason_of Byte = codes "it has a byte that stands in no flow file"
reason_of Shape = codes "it has not the form of an event or a rule that may come there"
reason_of Name = codes "a name in it is too long, badly begun or reserved"
reason_of Twice = codes "it declares an event that was declared before"
reason_of Undeclared = codes "a name in it is not declared above"
reason_of TooMany = codes "it is event 13 or rule 17, or has leaf 65"

abbrev pub refusal_of : FormFault → Refusal
refusal_of (form.Bytes b) = Line b.line Byte
refusal_of (form.Shape n) = Line n Shape

-- What the function that measures a field finds.
use Rattle.tib_field.specs.Steps.{Step as Measurement, Fault as Refused, Over as Whole}
use Rattle.tib_rv_field.specs.declared.Extent.{Extent}
use Rattle.tib_rv_field.specs.declared.Extent.TheVariants.{Plain, Holder}
use Rattle.tib_rv_field.specs.Reading.{Step, Done, Fault, Over, Into, total}

-- A step with the octets of the field in place of its sizes, and 0 at the end of the message.
unfoldable pub measured : Step → Measurement Extent
measured Done = Whole (Plain 0)
measured (Fault k) = Refused k
measured (Over z) = Whole (Plain (total z))
measured (Into z) = Whole (Holder (total z))

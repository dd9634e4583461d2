-- The sizes of a field's parts.
use Rattle.std.specs.Prelude.{length}
use Rattle.tib_msg_field.specs.declared.Sizes.{Sizes}
use Rattle.tib_msg_field.specs.Layout.{Parts}

-- The sizes of a field's parts.
unfoldable pub sizes : Parts → Sizes
sizes f =
    record {
      name = length f.name;
      octet = f.octet;
      width = length f.size;
      contents = length f.contents;
      hint = length f.hint;
    }

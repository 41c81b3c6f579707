-- What the Relation tells of a data type fits its fields.
use Rattle.std.proofs.Common.{◌<◌, ◌^◌, Some, None, FitsSigned, arith}
use Rattle.std.specs.Int.{w32}
use Rattle.data_types.specs.declared.data_type.DataType.{DataType}
use Rattle.data_types.specs.declared.data_type.DataType.TheVariants as types
use Rattle.data_types.specs.DataTypes.{type_modifier, type_oid}

pub oid_fits : (t : DataType) → type_oid t < 2 ^ 32
oid_fits types.Bool = omega arith
oid_fits types.Bytea = omega arith
oid_fits types.Int8 = omega arith
oid_fits types.Int2 = omega arith
oid_fits types.Int4 = omega arith
oid_fits types.Text = omega arith
oid_fits types.Json = omega arith
oid_fits types.Float4 = omega arith
oid_fits types.Float8 = omega arith
oid_fits types.Int4Array = omega arith
oid_fits types.TextArray = omega arith
oid_fits types.Date = omega arith
oid_fits types.Time = omega arith
oid_fits types.Timestamp = omega arith
oid_fits types.Timestamptz = omega arith
oid_fits types.Interval = omega arith
oid_fits types.Uuid = omega arith
oid_fits types.Jsonb = omega arith
oid_fits (types.Char limit) = omega arith
oid_fits (types.Varchar limit) = omega arith
oid_fits (types.Numeric places) = omega arith

pub modifier_in_range : (t : DataType) → FitsSigned w32 (type_modifier t)
modifier_in_range types.Bool = record { sfits = omega arith }
modifier_in_range types.Bytea = record { sfits = omega arith }
modifier_in_range types.Int8 = record { sfits = omega arith }
modifier_in_range types.Int2 = record { sfits = omega arith }
modifier_in_range types.Int4 = record { sfits = omega arith }
modifier_in_range types.Text = record { sfits = omega arith }
modifier_in_range types.Json = record { sfits = omega arith }
modifier_in_range types.Float4 = record { sfits = omega arith }
modifier_in_range types.Float8 = record { sfits = omega arith }
modifier_in_range types.Int4Array = record { sfits = omega arith }
modifier_in_range types.TextArray = record { sfits = omega arith }
modifier_in_range types.Date = record { sfits = omega arith }
modifier_in_range types.Time = record { sfits = omega arith }
modifier_in_range types.Timestamp = record { sfits = omega arith }
modifier_in_range types.Timestamptz = record { sfits = omega arith }
modifier_in_range types.Interval = record { sfits = omega arith }
modifier_in_range types.Uuid = record { sfits = omega arith }
modifier_in_range types.Jsonb = record { sfits = omega arith }
modifier_in_range (types.Char limit) = record { sfits = omega (arith, limit.in_range) }
modifier_in_range (types.Varchar None) = record { sfits = omega arith }
modifier_in_range (types.Varchar (Some limit)) = record { sfits = omega (arith, limit.in_range) }
modifier_in_range (types.Numeric None) = record { sfits = omega arith }
modifier_in_range (types.Numeric (Some places)) = record { sfits = omega (arith, places.precision_in_range, places.scale_in_range) }

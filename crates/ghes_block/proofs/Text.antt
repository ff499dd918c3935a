-- The words that an entry is spelled with, under short names.
pub use Rattle.reri_fields.specs.Block.{entry, section_type, zeros}

-- What a reader must believe of a witness: its entries by record, rising.
pub mod Witness

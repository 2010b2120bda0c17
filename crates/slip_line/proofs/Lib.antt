-- The laws of the printed slip: its line gets a yes (Demands).
pub mod Demands

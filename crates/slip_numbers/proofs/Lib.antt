-- The laws of the exchange form: a slip from its numbers (Read), and its numbers laid out (Laying).
pub mod Read
pub mod Laying

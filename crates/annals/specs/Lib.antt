pub mod Logs
pub mod Client
pub mod Rule
pub mod Plays
pub mod Forged
pub mod Glossary
